-- What the recorders show: what they were told, the packets that they were told of as sent and as lost, and how many more
-- they can be told before they must reserve.
use Rattle.std.specs.Prelude.{ℕ, ◌-◌, List, vec_capacity, vec_len}
use Rattle.packet_core.specs.declared.packet.Waiting.{Waiting}
use Rattle.journal_core.specs.declared.event.Event.{Event}
use Rattle.journal_core.specs.declared.recorder.EventList.{EventList}
use Rattle.journal_core.specs.declared.recorder.NullRecorder.{NullRecorder}
use Rattle.journal_core.specs.declared.recorder.StepList.{StepList}
use Rattle.journal_core.specs.declared.step.Step.{Step}

abbrev pub listed_events : EventList → List Event
listed_events l = l.events.items

abbrev pub listed_sent : EventList → List Waiting
listed_sent l = l.sent.items

abbrev pub listed_losses : EventList → List Waiting
listed_losses l = l.lost.items

-- the memory of the list that isn't used
abbrev pub listed_room : EventList → ℕ
listed_room l = vec_capacity l.events - vec_len l.events

abbrev pub listed_steps : StepList → List Step
listed_steps l = l.steps.items

abbrev pub listed_step_room : StepList → ℕ
listed_step_room l = vec_capacity l.steps - vec_len l.steps

abbrev pub null_events : NullRecorder → List Event
null_events n = n.events.items

abbrev pub null_sent : NullRecorder → List Waiting
null_sent n = n.sent.items

abbrev pub null_losses : NullRecorder → List Waiting
null_losses n = n.lost.items

abbrev pub null_room : NullRecorder → ℕ
null_room n = n.events.room

abbrev pub null_steps : NullRecorder → List Step
null_steps n = n.steps.items

abbrev pub null_step_room : NullRecorder → ℕ
null_step_room n = n.steps.room
