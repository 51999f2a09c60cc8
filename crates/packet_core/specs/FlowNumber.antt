-- How the flow of a five-tuple is chosen.
use Rattle.std.specs.Prelude.{ℕ, ◌%◌, List, ◌∷◌, ◌++◌, take}
use Rattle.std.specs.Int.{w16, w64, from_be_bytes, to_be_bytes}
use Rattle.sha2.specs.Sha256.{sha256}
use Rattle.packet_core.specs.Packets.{ip_bytes}
use Rattle.packet_core.specs.declared.packet.FiveTuple.{FiveTuple}
use Rattle.packet_core.specs.declared.flow.Seed.{Seed}
use Rattle.packet_core.specs.declared.params.Classify.{Classify}
use Rattle.packet_core.specs.declared.params.Classify.TheVariants.{Dport, Hash}

-- the bytes of a five-tuple: protocol, source address, destination address, source port and destination port, each with
-- its high byte first; 13 where both addresses are of IPv4, 37 where both are of IPv6
abbrev pub tuple_bytes : FiveTuple → List ℕ
tuple_bytes t = t.proto ∷ ip_bytes t.src ++ ip_bytes t.dst ++ to_be_bytes w16 t.sport ++ to_be_bytes w16 t.dport

-- what is hashed: 29 bytes for IPv4, 53 for IPv6, which are one block of the hash
unfoldable pub hashed_message : Seed → FiveTuple → List ℕ
hashed_message seed tuple = seed.0 ++ tuple_bytes tuple

-- the number that the first 8 bytes of a digest are, the high byte first
unfoldable pub hash_value : List ℕ → ℕ
hash_value message = from_be_bytes w64 (take 8 (sha256 message))

-- The flow of a five-tuple, of so many flows: by its hash with SHA-256 (FIPS 180-4) behind a seed (RFC 8290,
-- section 4.1), or by its destination port.
abbrev pub flow_number : Classify → ℕ → Seed → FiveTuple → ℕ
flow_number Hash flows seed tuple = hash_value (hashed_message seed tuple) % flows
flow_number Dport flows seed tuple = tuple.dport % flows
