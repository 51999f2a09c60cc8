-- The bytes that are hashed for one five-tuple, by computing.
use Rattle.std.proofs.Common.{◌≡◌, ℕ, List, [], ◌∷◌, ◌++◌, length, refl}
use Rattle.packet_core.specs.FlowNumber.{hashed_message}
use Rattle.packet_core.specs.declared.flow.Seed.{Seed}
use Rattle.packet_core.specs.declared.packet.FiveTuple.{FiveTuple}
use Rattle.packet_core.specs.declared.packet.Ip.TheVariants.{V4}

sixteen_zeros : List ℕ
sixteen_zeros = 0 ∷ 0 ∷ 0 ∷ 0 ∷ 0 ∷ 0 ∷ 0 ∷ 0 ∷ 0 ∷ 0 ∷ 0 ∷ 0 ∷ 0 ∷ 0 ∷ 0 ∷ 0 ∷ []

zero_seed : Seed
zero_seed = record { 0 = sixteen_zeros }

-- UDP from port 5000 of 10.0.0.1 to port 53 of 10.0.0.2
query : FiveTuple
query =
    record { proto = 17; src = V4 (10 ∷ 0 ∷ 0 ∷ 1 ∷ []); dst = V4 (10 ∷ 0 ∷ 0 ∷ 2 ∷ []); sport = 5000; dport = 53 }

-- The seed, the protocol, both addresses and both ports, each with its high byte first: 5000 is 19 * 256 + 136.
hashed_bytes : hashed_message zero_seed query
    ≡ sixteen_zeros ++ 17 ∷ 10 ∷ 0 ∷ 0 ∷ 1 ∷ 10 ∷ 0 ∷ 0 ∷ 2 ∷ 19 ∷ 136 ∷ 0 ∷ 53 ∷ []
unfolding hashed_message zero_seed sixteen_zeros query
hashed_bytes = refl

how_many_bytes : length (hashed_message zero_seed query) ≡ 29
unfolding hashed_message zero_seed sixteen_zeros query
how_many_bytes = refl
