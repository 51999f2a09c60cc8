use Rattle.std.specs.Prelude.{◌≡◌, ℕ, ◌+◌, ◌-◌, ◌<◌, ◌≤◌, vec_capacity, vec_len, Bool, List, [], ◌∷◌, ◌++◌, map, count_by, Some, slice_get, if◌then◌else◌}
use Rattle.std.specs.List.{AllZip, IsDistinct, filter_map, list_any}
use Rattle.indexmap.specs.IndexSet.{spare}
use Rattle.packet_core.specs.Packets.{same_tuple}
use Rattle.packet_core.specs.declared.packet.FiveTuple.{FiveTuple}
use Rattle.journal_core.specs.declared.event.Event.{Event}
use Rattle.journal_core.specs.declared.event.Event.TheVariants.{Accepted, Sent, Dropped, Closed}
use Rattle.journal_core.specs.declared.tally.Seen.{Seen}
use Rattle.journal_core.specs.declared.tally.Tally.{Tally}
use Rattle.journal_core.specs.declared.tuple_rows.RowsByTuple.{RowsByTuple}
use Rattle.journal_core.specs.declared.tuple_rows.TupleRow.{TupleRow}
use Rattle.journal_core.specs.Happened.{Acceptance, acceptances, passes}
use Rattle.journal_core.specs.Statistics.{sent_of, dropped_of}
use Rattle.journal_core.specs.TupleRows.{first_of_each, of_one_tuple}

-- the five-tuple of an accepted packet
abbrev pub tuple_of : Acceptance → FiveTuple
tuple_of a = a.packet.tuple

-- each packet that was accepted is sent, dropped or queued
abbrev pub IsBalanced : TupleRow → Type 0
IsBalanced row = row.accepted ≡ row.sent + row.dropped + row.queued

-- the row of a five-tuple of which nothing is counted yet
abbrev pub empty_row : FiveTuple → ℕ → TupleRow
empty_row tuple flow = record { tuple = tuple; flow = flow; accepted = 0; sent = 0; dropped = 0; queued = 0 }

-- a row with one event more
abbrev pub counted : Event → TupleRow → TupleRow
counted (Accepted lane id moment flow packet) row = record row { accepted = row.accepted + 1 }
counted (Sent id moment ecn mark) row = record row { sent = row.sent + 1 }
counted (Dropped id moment cause) row = record row { dropped = row.dropped + 1 }
counted (Closed moment) row = row

-- a row with the packets that wait, once all events are counted
abbrev pub settled : TupleRow → TupleRow
settled row = record row { queued = row.accepted - row.sent - row.dropped }

-- The row of the five-tuple whose first acceptance that is, where only the events seen so far are counted, and
-- what waits is not.
abbrev pub row_so_far : List Acceptance → List Event → Acceptance → TupleRow
row_so_far accepted seen first =
    let is_own : Acceptance → Bool = λ a. of_one_tuple a first in
    record {
      tuple = tuple_of first;
      flow = first.flow;
      accepted = count_by is_own (acceptances seen);
      sent = count_by (passes is_own accepted) (filter_map sent_of seen);
      dropped = count_by (passes is_own accepted) (filter_map dropped_of seen);
      queued = 0;
    }

-- What a tally of those acceptances keeps where the events seen are counted: the five-tuples in order of first
-- acceptance, their rows, and for each packet the place of its five-tuple.
pub record AreTallied (tuples : List FiveTuple) (rows : List TupleRow) (places : List ℕ)
    (accepted : List Acceptance) (seen : List Event) : Type 0 where
  pub tuples_are : tuples ≡ map tuple_of (first_of_each of_one_tuple accepted)
  pub apart : IsDistinct same_tuple tuples
  pub rows_are : rows ≡ map (row_so_far accepted seen) (first_of_each of_one_tuple accepted)
  pub places_are : AllZip (λ place a. slice_get tuples place ≡ Some (tuple_of a)) places accepted

-- The rows are those of the acceptances and the events.
abbrev pub IsTallied : RowsByTuple → List Acceptance → List Event → Type 0
IsTallied rows accepted seen = AreTallied rows.tuples.keys rows.rows.items rows.places.items accepted seen

-- So many packets more can come to the rows without more memory. (Of five-tuples that come again it takes less.)
abbrev pub HasRowRoom : ℕ → RowsByTuple → Type 0
HasRowRoom more rows = (more ≤ spare rows.tuples) × (vec_len rows.rows + more ≤ vec_capacity rows.rows)
    × (vec_len rows.places + more ≤ vec_capacity rows.places)

-- what is kept of a packet whose five-tuple is seen
abbrev pub seen_of : Acceptance → Seen
seen_of a = record { tuple = tuple_of a; flow = a.flow }

-- the five-tuples that are seen
abbrev pub tuples_of : List Seen → List FiveTuple
tuples_of seen = map (λ (s : Seen). s.tuple) seen

-- What is kept of acceptances before any row is made: some of them, among which is the first of each five-tuple, and
-- for each packet a place where its five-tuple is seen.
pub record AreSeen (seen : List Seen) (places : List ℕ) (accepted : List Acceptance) : Type 0 where
  pub kept : List Acceptance
  pub seen_are : seen ≡ map seen_of kept
  pub firsts_are : first_of_each of_one_tuple kept ≡ first_of_each of_one_tuple accepted
  pub places_are : AllZip (λ place a. slice_get (tuples_of seen) place ≡ Some (tuple_of a)) places accepted

-- No row is made, and as many as can be seen have memory for theirs.
abbrev pub HasRoomToSee : Tally → Type 0
HasRoomToSee tally = IsTallied tally.rows [] [] × HasRowRoom (vec_capacity tally.seen) tally.rows

-- what has memory for its rows has it still
abbrev pub KeepsRowRoom : Tally → Tally → Type 0
KeepsRowRoom old new = HasRoomToSee old → HasRoomToSee new

-- The packets of these acceptances have come to the tally, and their rows ask for no memory.
pub record HasSeen (tally : Tally) (accepted : List Acceptance) : Type 0 where
  pub seen : AreSeen tally.seen.items tally.places.items accepted
  pub room : HasRoomToSee tally

-- A packet more can come to the tally without more memory.
abbrev pub HasRoom : Tally → Type 0
HasRoom tally = (vec_len tally.seen < vec_capacity tally.seen) × (vec_len tally.places < vec_capacity tally.places)

-- the rows with one more for a five-tuple that is new
abbrev pub with_row : List FiveTuple → List TupleRow → FiveTuple → ℕ → List TupleRow
with_row tuples rows tuple flow =
    if list_any (same_tuple tuple) tuples then rows else rows ++ empty_row tuple flow ∷ []
