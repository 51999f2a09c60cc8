-- Batches of events, and the journals that they make.
use Rattle.std.specs.Prelude.{List}
use Rattle.std.specs.List.{flat_map}
use mathlib.Core.List.{IsPrefix}
use Rattle.journal_core.specs.declared.event.Event.{Event}
use Rattle.monitor_core.specs.declared.book.Batch.{Batch}

abbrev pub batch : List Event → Batch
batch events = record { events = events }

-- all events of the batches
abbrev pub joined : List Batch → List Event
joined log = flat_map (λ b. b.events) log

-- both begin one list
abbrev pub BeginOne : {A : Type 0} → List A → List A → Type 0
BeginOne {A} xs ys = (all : List A) × IsPrefix xs all × IsPrefix ys all
