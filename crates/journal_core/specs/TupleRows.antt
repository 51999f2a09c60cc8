use Rattle.std.specs.Prelude.{Bool, List, [], ◌∷◌, ◌++◌, map, fold, count_by, if◌then◌else◌}
use Rattle.std.specs.List.{filter_map, list_any}
use Rattle.packet_core.specs.Packets.{same_tuple}
use Rattle.journal_core.specs.declared.event.Event.{Event}
use Rattle.journal_core.specs.declared.tuple_rows.TupleRow.{TupleRow}
use Rattle.journal_core.specs.Happened.{Acceptance, acceptances, passes, without_fate}
use Rattle.journal_core.specs.Statistics.{sent_of, dropped_of}

-- the list with one element more, unless one that is the same stands there
abbrev pub with_new : {X : Type 0} → (X → X → Bool) → List X → X → List X
with_new same xs x = if list_any (same x) xs then xs else xs ++ x ∷ []

-- of those that are the same, the first, in order
abbrev pub first_of_each : {X : Type 0} → (X → X → Bool) → List X → List X
first_of_each same xs = fold (with_new same) [] xs

-- whether two accepted packets are of one five-tuple
abbrev pub of_one_tuple : Acceptance → Acceptance → Bool
of_one_tuple a b = same_tuple a.packet.tuple b.packet.tuple

-- The row of the five-tuple whose first acceptance that is: the flow that it names, and how many packets of the
-- five-tuple were accepted, were sent, were dropped and have no fate.
abbrev pub row_of : List Event → Acceptance → TupleRow
row_of events first =
    let is_own : Acceptance → Bool = λ a. of_one_tuple a first in
    record {
      tuple = first.packet.tuple;
      flow = first.flow;
      accepted = count_by is_own (acceptances events);
      sent = count_by (passes is_own (acceptances events)) (filter_map sent_of events);
      dropped = count_by (passes is_own (acceptances events)) (filter_map dropped_of events);
      queued = count_by is_own (without_fate events);
    }

-- a row for each five-tuple of an accepted packet, in order of first acceptance
abbrev pub tuple_rows : List Event → List TupleRow
tuple_rows events = map (row_of events) (first_of_each of_one_tuple (acceptances events))
