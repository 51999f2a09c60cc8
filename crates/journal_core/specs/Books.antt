use Rattle.std.specs.Prelude.{ℕ, ◌+◌, ◌*◌, ◌-◌, ◌≤◌, List, [], ◌∷◌, ◌++◌, length, min}
use Rattle.codel_core.specs.declared.served.Mark.{Mark}
use Rattle.codel_core.specs.declared.served.Mark.TheVariants.{NoMark, CodelMark, Threshold}
use Rattle.packet_core.specs.declared.packet.Waiting.{Waiting}
use Rattle.journal_core.specs.declared.event.Cause.{Cause}
use Rattle.journal_core.specs.declared.event.Cause.TheVariants.{Codel, Overflow}
use Rattle.journal_core.specs.declared.event.Event.{Event}
use Rattle.journal_core.specs.declared.journal.Counts.{Counts}
use Rattle.journal_core.specs.MadeFor.{MadeFor}
use Rattle.journal_core.specs.declared.journal.TheConstants.{MAX_EVENTS}

-- the journal as the scheduler sees it: the events, the packets that its recorder was told of as sent and as lost, the
-- counts that run along, how many events more take no memory, and what its recorder was made for
pub record Book : Type 0 where
  pub events : List Event
  pub sent : List Waiting
  pub lost : List Waiting
  pub counts : Counts
  pub room : ℕ
  pub made_for : MadeFor

-- that of a recorder which was told those events, departures and losses, has so much room, and was made for that; there
-- is no more room than the most events leave
abbrev pub book_of : List Event → List Waiting → List Waiting → Counts → ℕ → MadeFor → Book
book_of events sent lost counts room made_for = record {
  events = events;
  sent = sent;
  lost = lost;
  counts = counts;
  room = min room (MAX_EVENTS - length events);
  made_for = made_for;
}

abbrev pub no_counts : Counts
no_counts = record {
  accepted = 0;
  accepted_bytes = 0;
  sent = 0;
  sent_bytes = 0;
  dropped_codel = 0;
  dropped_overflow = 0;
  dropped_bytes = 0;
  marked = 0;
  threshold_marked = 0;
}

-- one event more, and these counts
abbrev pub with_event : Book → Event → Counts → Book
with_event book event counts = record {
  events = book.events ++ event ∷ [];
  sent = book.sent;
  lost = book.lost;
  counts = counts;
  room = book.room - 1;
  made_for = book.made_for;
}

-- the same, where that packet is sent
abbrev pub with_departure : Book → Event → Counts → Waiting → Book
with_departure book event counts w = record (with_event book event counts) { sent = book.sent ++ w ∷ [] }

-- the same, where that packet is lost
abbrev pub with_loss : Book → Event → Counts → Waiting → Book
with_loss book event counts w = record (with_event book event counts) { lost = book.lost ++ w ∷ [] }

-- one packet of that length accepted
abbrev pub count_accepted : Counts → ℕ → Counts
count_accepted c len = record c { accepted = c.accepted + 1; accepted_bytes = c.accepted_bytes + len }

-- how many marks of CoDel's that is, and how many for the threshold
abbrev pub codel_marks_of : Mark → ℕ
codel_marks_of NoMark = 0
codel_marks_of CodelMark = 1
codel_marks_of Threshold = 0

abbrev pub threshold_marks_of : Mark → ℕ
threshold_marks_of NoMark = 0
threshold_marks_of CodelMark = 0
threshold_marks_of Threshold = 1

-- one sent
abbrev pub count_sent : Counts → ℕ → Mark → Counts
count_sent c len mark = record c {
  sent = c.sent + 1;
  sent_bytes = c.sent_bytes + len;
  marked = c.marked + codel_marks_of mark;
  threshold_marked = c.threshold_marked + threshold_marks_of mark;
}

-- how many drops by CoDel that is, and how many by overflow
abbrev pub codel_drops_of : Cause → ℕ
codel_drops_of Codel = 1
codel_drops_of Overflow = 0

abbrev pub overflow_drops_of : Cause → ℕ
overflow_drops_of Codel = 0
overflow_drops_of Overflow = 1

-- one dropped
abbrev pub count_dropped : Counts → ℕ → Cause → Counts
count_dropped c len cause = record c {
  dropped_codel = c.dropped_codel + codel_drops_of cause;
  dropped_overflow = c.dropped_overflow + overflow_drops_of cause;
  dropped_bytes = c.dropped_bytes + len;
}

-- those dropped, one after another
abbrev pub count_drops : Cause → Counts → List Waiting → Counts
count_drops why c [] = c
count_drops why c (w ∷ ws) = count_drops why (count_dropped c w.packet.len why) ws

-- No count is above the number of events, and no sum of lengths above what so many packets can have.
pub record IsCounted (c : Counts) (n : ℕ) : Type 0 where
  pub accepted : c.accepted ≤ n
  pub accepted_bytes : c.accepted_bytes ≤ 65535 * n
  pub sent : c.sent ≤ n
  pub sent_bytes : c.sent_bytes ≤ 65535 * n
  pub dropped_codel : c.dropped_codel ≤ n
  pub dropped_overflow : c.dropped_overflow ≤ n
  pub dropped_bytes : c.dropped_bytes ≤ 65535 * n
  pub marked : c.marked ≤ n
  pub threshold_marked : c.threshold_marked ≤ n

-- The counts are in range for those events, of which there are not too many.
abbrev pub CountsFewEvents : Counts → List Event → Type 0
CountsFewEvents counts events = IsCounted counts (length events) × (length events ≤ MAX_EVENTS)
