-- Marks in vain: five-tuples most of whose packets are marked, and whose queue grows all the same.
use Rattle.std.specs.Prelude.{◌≡◌, ℕ, zero, suc, ◌+◌, ◌/◌, ◌<◌, ◌&&◌, All, Bool, false, List, [], ◌∷◌, ◌++◌, Option, Some, None, count_by, map, nat_lt, if◌then◌else◌}
use Rattle.std.specs.List.{position_or_len}
use Rattle.link_report.specs.Groups.{GroupParts, groups_from}
use Rattle.link_report.specs.Packets.{Known, delay_sent, is_marked, is_sent}
use Rattle.link_report.specs.declared.packets.PacketRecord.{PacketRecord}
use Rattle.link_command.specs.declared.marks.Counts.{Counts}

-- whether a delay is longer than so many microseconds
abbrev pub is_longer : ℕ → Option ℕ → Bool
is_longer interval None = false
is_longer interval (Some delay) = nat_lt interval delay

-- whether a packet was sent that waited longer
abbrev pub is_late : ℕ → PacketRecord → Bool
is_late interval p = is_longer interval (delay_sent p)

-- Of the packets of a five-tuple: how many were sent, how many of these with a mark of either kind, and how many of them
-- waited longer than the interval.
abbrev pub counts_of : ℕ → GroupParts → Counts
counts_of interval group = record {
  sent = count_by is_sent group.packets;
  marked = count_by is_marked group.packets;
  late = count_by (is_late interval) group.packets;
}

-- More than half of the packets sent are marked, and more than one in 100 waited longer than the interval. So the 99th
-- percentile of their delays is above the interval.
abbrev pub is_in_vain : Counts → Bool
is_in_vain c = nat_lt (c.sent / 2) c.marked && nat_lt (c.sent / 100) c.late

-- the number of the first five-tuple whose marks are in vain, and how many there are where there is none
abbrev pub vain_place : ℕ → Known → ℕ
vain_place interval known =
    position_or_len is_in_vain (map (counts_of interval) (groups_from 0 known.packets known.tuples))

-- the counts with one packet more
abbrev pub counted : ℕ → Counts → PacketRecord → Counts
counted interval c p = record {
  sent = if is_sent p then c.sent + 1 else c.sent;
  marked = if is_marked p then c.marked + 1 else c.marked;
  late = if is_late interval p then c.late + 1 else c.late;
}

-- the same at one place of some
abbrev pub with_counted : ℕ → List Counts → ℕ → PacketRecord → List Counts
with_counted interval [] place p = []
with_counted interval (c ∷ counts) zero p = counted interval c p ∷ counts
with_counted interval (c ∷ counts) (suc place) p = c ∷ with_counted interval counts place p

-- each of the counts is below that
pub record IsCountable (bound : ℕ) (c : Counts) : Type 0 where
  pub sent : c.sent < bound
  pub marked : c.marked < bound
  pub late : c.late < bound

abbrev pub AreCountable : ℕ → List Counts → Type 0
AreCountable bound counts = All (IsCountable bound) counts
