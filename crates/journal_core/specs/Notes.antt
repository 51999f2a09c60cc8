-- What a report says of events, and what a recorder of that shows.
use Rattle.std.specs.Prelude.{◌≡◌, ℕ, ◌+◌, ◌-◌, ◌<◌, List, length, map, get_or, Option, Some, None, vec_capacity, vec_len}
use Rattle.packet_core.specs.declared.packet.Waiting.{Waiting}
use Rattle.journal_core.specs.declared.event.Event.{Event}
use Rattle.journal_core.specs.declared.event.Event.TheVariants.{Accepted, Sent, Dropped, Closed}
use Rattle.journal_core.specs.declared.note.Note.{Note}
use Rattle.journal_core.specs.declared.note.Note.TheVariants as note
use Rattle.journal_core.specs.declared.noted.Noted.TheInside.{Inside}
use Rattle.journal_core.specs.declared.tuple_rows.TupleRow.{TupleRow}

-- what a report says of an event
abbrev pub note_of : Event → Note
note_of (Accepted lane id moment flow packet) = note.Accepted flow id
note_of (Sent id moment ecn mark) = note.Sent ecn id
note_of (Dropped id moment cause) = note.Dropped cause id
note_of (Closed moment) = note.Closed

-- the id of the packet that a note is of; that of a close is of none
abbrev pub noted_id : Note → Option ℕ
noted_id (note.Accepted flow id) = Some id
noted_id (note.Sent ecn id) = Some id
noted_id (note.Dropped cause id) = Some id
noted_id note.Closed = None

-- a row with one event more, by its note
abbrev pub counted_by : Note → TupleRow → TupleRow
counted_by (note.Accepted flow id) row = record row { accepted = row.accepted + 1 }
counted_by (note.Sent ecn id) row = record row { sent = row.sent + 1 }
counted_by (note.Dropped cause id) row = record row { dropped = row.dropped + 1 }
counted_by note.Closed row = row

-- the note is of the event at that place
pub record IsNotedAt (events : List Event) (place : ℕ) (n : Note) : Type 0 where
  pub event : Event
  pub within : place < length events
  pub stands : get_or events place event ≡ event
  pub is : n ≡ note_of event

-- what a recorder was told: the events, the packets sent and the packets lost, and how many events more it can be told
pub record Tale : Type 0 where
  pub events : List Event
  pub sent : List Waiting
  pub lost : List Waiting
  pub room : ℕ

abbrev pub tale_of : Inside → Tale
tale_of n = record {
  events = n.told.items;
  sent = n.sent.items;
  lost = n.lost.items;
  room = vec_capacity n.notes - vec_len n.notes;
}

-- There is a note of each event, in order.
abbrev pub AreNoted : Inside → Type 0
AreNoted n = n.notes.items ≡ map note_of n.told.items
