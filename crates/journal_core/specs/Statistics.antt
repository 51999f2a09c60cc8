use Rattle.std.specs.Prelude.{ℕ, Bool, true, false, List, length, Option, Some, None, count_by, sum_by}
use Rattle.std.specs.List.{filter_map, list_any}
use Rattle.std.specs.Option.{option_map_or}
use Rattle.journal_core.specs.declared.event.Cause.TheVariants.{Codel, Overflow}
use Rattle.codel_core.specs.declared.served.Mark.TheVariants.{NoMark, CodelMark, Threshold}
use Rattle.journal_core.specs.declared.event.Event.{Event}
use Rattle.journal_core.specs.declared.event.Event.TheVariants.{Accepted, Sent, Dropped, Closed}
use Rattle.journal_core.specs.declared.totals.Totals.{Totals}
use Rattle.journal_core.specs.Happened.{Acceptance, is_closed, acceptances, named, without_fate}

-- the id that a Sent names
abbrev pub sent_of : Event → Option ℕ
sent_of (Accepted lane id moment flow packet) = None
sent_of (Sent id moment ecn mark) = Some id
sent_of (Dropped id moment cause) = None
sent_of (Closed moment) = None

-- the id that a Dropped names
abbrev pub dropped_of : Event → Option ℕ
dropped_of (Accepted lane id moment flow packet) = None
dropped_of (Sent id moment ecn mark) = None
dropped_of (Dropped id moment cause) = Some id
dropped_of (Closed moment) = None

-- a drop by CoDel
abbrev pub is_codel_drop : Event → Bool
is_codel_drop (Accepted lane id moment flow packet) = false
is_codel_drop (Sent id moment ecn mark) = false
is_codel_drop (Dropped id moment Codel) = true
is_codel_drop (Dropped id moment Overflow) = false
is_codel_drop (Closed moment) = false

-- a drop by overflow
abbrev pub is_overflow_drop : Event → Bool
is_overflow_drop (Accepted lane id moment flow packet) = false
is_overflow_drop (Sent id moment ecn mark) = false
is_overflow_drop (Dropped id moment Codel) = false
is_overflow_drop (Dropped id moment Overflow) = true
is_overflow_drop (Closed moment) = false

-- a packet sent with a mark of CoDel's
abbrev pub is_marked : Event → Bool
is_marked (Accepted lane id moment flow packet) = false
is_marked (Sent id moment ecn NoMark) = false
is_marked (Sent id moment ecn CodelMark) = true
is_marked (Sent id moment ecn Threshold) = false
is_marked (Dropped id moment cause) = false
is_marked (Closed moment) = false

-- a packet sent with a mark for the threshold
abbrev pub is_threshold_marked : Event → Bool
is_threshold_marked (Accepted lane id moment flow packet) = false
is_threshold_marked (Sent id moment ecn NoMark) = false
is_threshold_marked (Sent id moment ecn CodelMark) = false
is_threshold_marked (Sent id moment ecn Threshold) = true
is_threshold_marked (Dropped id moment cause) = false
is_threshold_marked (Closed moment) = false

abbrev pub length_of : Acceptance → ℕ
length_of a = a.packet.len

-- the length of the packet that the id names, in bytes
abbrev pub length_named : List Acceptance → ℕ → ℕ
length_named accepted id = option_map_or length_of (named accepted id) 0

-- the lengths of the packets that the ids name, added up
abbrev pub bytes_named : List Acceptance → List ℕ → ℕ
bytes_named accepted ids = sum_by (length_named accepted) ids

-- the statistics of a journal: how many events there are of each kind, and the lengths of the packets that they name
abbrev pub statistics : List Event → Totals
statistics events = record {
  accepted = length (acceptances events);
  accepted_bytes = sum_by length_of (acceptances events);
  sent = length (filter_map sent_of events);
  sent_bytes = bytes_named (acceptances events) (filter_map sent_of events);
  dropped_codel = count_by is_codel_drop events;
  dropped_overflow = count_by is_overflow_drop events;
  dropped_bytes = bytes_named (acceptances events) (filter_map dropped_of events);
  marked = count_by is_marked events;
  threshold_marked = count_by is_threshold_marked events;
  queued = length (without_fate events);
  queued_bytes = sum_by length_of (without_fate events);
  closed = list_any is_closed events;
}
