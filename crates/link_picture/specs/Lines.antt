-- The lines of a picture: one for each five-tuple that was chosen, in that order, and one for all others.
use Rattle.std.specs.Prelude.{◌≡◌, ℕ, ◌<◌, ◌≤◌, ◌==◌, ◌⊎◌, List, count_by, filter, length}
use Rattle.std.specs.List.{position_or_len}
use Rattle.std.specs.Prelude.{slice_index_or as get_or}
use Rattle.std.specs.List.Sorted.{IsNonDecreasing}
use Rattle.link_report.specs.declared.packets.PacketRecord.{PacketRecord}
use Rattle.link_picture.specs.declared.lines.TheConstants.{MAX_NAMED}

-- the line of a five-tuple: its place among those chosen, and their number where it isn't among them
abbrev pub line_number_of : List ℕ → ℕ → ℕ
line_number_of chosen tuple = position_or_len (λ number. number == tuple) chosen

-- the packets of a line
abbrev pub packets_on : List ℕ → ℕ → List PacketRecord → List PacketRecord
packets_on chosen line packets = filter (λ (p : PacketRecord). line_number_of chosen p.tuple == line) packets

-- how many packets a five-tuple has
abbrev pub count_of : List PacketRecord → ℕ → ℕ
count_of packets tuple = count_by (λ (p : PacketRecord). p.tuple == tuple) packets

-- how often a number is among some
abbrev pub times_among : List ℕ → ℕ → ℕ
times_among numbers number = count_by (λ n. n == number) numbers

-- A five-tuple goes before another: it has more packets, or as many and came first.
abbrev pub GoesBefore : List PacketRecord → ℕ → ℕ → Type 0
GoesBefore packets tuple other =
    (count_of packets other < count_of packets tuple)
    ⊎ ((count_of packets other ≡ count_of packets tuple) × (tuple < other))

-- Of so many five-tuples those are chosen that go before all others, each with a packet and once. They are fewer than
-- `MAX_NAMED` only where no other has a packet.
pub record AreMost (tuples : ℕ) (packets : List PacketRecord) (chosen : List ℕ) : Type 0 where
  pub few : length chosen ≤ MAX_NAMED
  pub once : (tuple : ℕ) → times_among chosen tuple ≤ 1
  pub some : (tuple : ℕ) → 0 < times_among chosen tuple → (tuple < tuples) × (0 < count_of packets tuple)
  pub first : (tuple other : ℕ) → 0 < times_among chosen tuple → other < tuples → times_among chosen other ≡ 0 → GoesBefore packets tuple other
  pub all : length chosen < MAX_NAMED → (other : ℕ) → other < tuples → times_among chosen other ≡ 0 → count_of packets other ≡ 0

-- The same, in ascending order.
pub record AreChosen (tuples : ℕ) (packets : List PacketRecord) (chosen : List ℕ) : Type 0 where
  pub most : AreMost tuples packets chosen
  pub ascending : IsNonDecreasing chosen

-- these are the numbers of packets of so many five-tuples
pub record AreLineCounts (tuples : ℕ) (packets : List PacketRecord) (counts : List ℕ) : Type 0 where
  pub long : length counts ≡ tuples
  pub each : (k : ℕ) → k < tuples → get_or counts k 0 ≡ count_of packets k

-- the first place of the greatest of some numbers, which is above 0
pub record IsPlaceOfMost (numbers : List ℕ) (place : ℕ) : Type 0 where
  pub within : place < length numbers
  pub some : 0 < get_or numbers place 0
  pub most : (k : ℕ) → k < length numbers → get_or numbers k 0 ≤ get_or numbers place 0
  pub first : (k : ℕ) → k < place → get_or numbers k 0 < get_or numbers place 0

-- all of some numbers are 0
abbrev pub AreNone : List ℕ → Type 0
AreNone numbers = (k : ℕ) → k < length numbers → get_or numbers k 0 ≡ 0
