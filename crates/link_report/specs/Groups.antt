-- Packets by their five-tuples.
use Rattle.std.specs.Prelude.{ℕ, ◌+◌, ◌==◌, ◌++◌, zero, suc, List, [], ◌∷◌, filter}
use Rattle.packet_core.specs.declared.packet.FiveTuple.{FiveTuple}
use Rattle.link_report.specs.declared.packets.PacketRecord.{PacketRecord}

-- the packets of one five-tuple, with the five-tuple and its number
pub record GroupParts : Type 0 where
  pub number : ℕ
  pub tuple : FiveTuple
  pub packets : List PacketRecord

-- for each of some five-tuples, the first of which has that number, those of the packets that are its own
abbrev pub groups_from : ℕ → List PacketRecord → List FiveTuple → List GroupParts
groups_from number packets [] = []
groups_from number packets (tuple ∷ tuples) =
    record { number = number; tuple = tuple; packets = filter (λ p. p.tuple == number) packets }
    ∷ groups_from (number + 1) packets tuples

-- the groups with one packet more in the one at that place
abbrev pub with_packet : List GroupParts → ℕ → PacketRecord → List GroupParts
with_packet [] place p = []
with_packet (g ∷ groups) zero p = record g { packets = g.packets ++ p ∷ [] } ∷ groups
with_packet (g ∷ groups) (suc place) p = g ∷ with_packet groups place p
