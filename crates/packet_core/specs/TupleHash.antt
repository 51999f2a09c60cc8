-- What a five-tuple feeds a hasher, that five-tuples which are equal by the derived test feed it alike, and the hasher
-- that a builder gives.
use Rattle.std.specs.Prelude.{◌≡◌, ◌&&◌, ◌==◌, ◌++◌, Bool, true, false, List, ℕ}
use Rattle.std.specs.Hash as fed
use mathlib.Core.Path.{ap, refl}
use mathlib.Core.Bool.{false≢true}
use Rattle.std.specs.Cmp.{unsigned_Decides}
use lib.Pointwise.{bytes_decides}
use Rattle.packet_core.specs.PackedTuples.{tuple_packed}
use Rattle.packet_core.specs.declared.packet.Ip.{Ip}
use Rattle.packet_core.specs.declared.packet.Ip.TheVariants.{V4, V6}
use Rattle.packet_core.specs.declared.packet.FiveTuple.{FiveTuple}
use Rattle.packet_core.specs.declared.seeded_hash.SeededHash.{SeededHash}
use Rattle.std.specs.declared.hash.DefaultHasher.{DefaultHasher}
use Rattle.packet_core.specs.contracts.packet.FiveTuplePartialEq.TheImpl as tuple_equality
use Rattle.packet_core.specs.contracts.packet.IpPartialEq.TheImpl as ip_equality

-- its words, each with its low byte first
abbrev pub tuple_input : FiveTuple → List (List ℕ)
tuple_input tuple =
    let words = tuple_packed tuple in
    fed.u64 words.src.0 ++ fed.u64 words.src.1 ++ fed.u64 words.dst.0 ++ fed.u64 words.dst.1 ++ fed.u64 words.fields

-- where two tests hold together, each holds
both : (a b : Bool) → (a && b) ≡ true → (a ≡ true) × (b ≡ true)
both true b h = (refl, h)
both false b h = absurd (false≢true h)

-- addresses that are equal by the derived test are the same one
address_is : (a b : Ip) → (ip_equality.ghosts).eq a b ≡ true → a ≡ b
address_is (V4 a) (V4 b) same = ap V4 ((bytes_decides a b).0 same)
address_is (V6 a) (V6 b) same = ap V6 ((bytes_decides a b).0 same)
address_is (V4 a) (V6 b) same = absurd (false≢true same)
address_is (V6 a) (V4 b) same = absurd (false≢true same)

-- and so are five-tuples
tuple_is : (a b : FiveTuple) → (tuple_equality.ghosts).eq a b ≡ true → a ≡ b
tuple_is a b same =
    let first = both (a.proto == b.proto) _ same in
    let second = both ((ip_equality.ghosts).eq a.src b.src) _ first.1 in
    let third = both ((ip_equality.ghosts).eq a.dst b.dst) _ second.1 in
    let ports = both (a.sport == b.sport) _ third.1 in
    λ i. record {
      proto = (unsigned_Decides a.proto b.proto).0 first.0 i;
      src = address_is a.src b.src second.0 i;
      dst = address_is a.dst b.dst third.0 i;
      sport = (unsigned_Decides a.sport b.sport).0 ports.0 i;
      dport = (unsigned_Decides a.dport b.dport).0 ports.1 i;
    }

-- so these feed a hasher alike
pub inputs_agree : (a b : FiveTuple) → (tuple_equality.ghosts).eq a b ≡ true → tuple_input a ≡ tuple_input b
inputs_agree a b same = ap tuple_input (tuple_is a b same)

-- the hasher that a builder gives
abbrev pub initial_hasher : SeededHash → DefaultHasher
initial_hasher builder = builder.initial
