use Rattle.std.specs.Prelude.{◌≡◌, ℕ, ◌+◌, true, List, [], ◌∷◌, ◌++◌, map, Option, Some, None, MatchOption}
use Rattle.packet_core.specs.Packets.{PacketParts}
use Rattle.packet_core.specs.declared.packet.Waiting.{Waiting}
use Rattle.journal_core.specs.declared.step.Step.{Step}
use Rattle.journal_core.specs.declared.step.Step.TheVariants.{Enqueue, Dequeue, Close}
use Rattle.journal_core.specs.declared.event.Cause.{Cause}
use Rattle.journal_core.specs.declared.event.Cause.TheVariants as cause
use Rattle.journal_core.specs.declared.event.Event.{Event}
use Rattle.journal_core.specs.declared.event.Event.TheVariants as event
use Rattle.journal_core.specs.declared.outcome.Answer.{Answer}
use Rattle.journal_core.specs.declared.outcome.Answer.TheVariants as answer
use Rattle.codel_core.specs.Verdict.{sent_ecn}
use Rattle.codel_core.specs.declared.served.Mark.{Mark}
use Rattle.journal_core.specs.Disciplines.{Discipline, Given}
use Rattle.journal_core.specs.State.{State, arrival, refusal_of}

-- the event of a packet that is accepted from a lane into a flow, as it waits from then on
abbrev pub accepted_event : ℕ → ℕ → Waiting → Event
accepted_event lane flow w = event.Accepted lane w.id w.stamp flow w.packet

-- the event of a packet that is sent with that mark, with the ECN field that it leaves with
abbrev pub sent_event : ℕ → Mark → Waiting → Event
sent_event moment mark w = event.Sent w.id moment w.packet.ecn mark

-- the event of a packet that is dropped
abbrev pub drop_event : ℕ → Cause → Waiting → Event
drop_event moment why w = event.Dropped w.id moment why

-- the event of a packet that is given to the device, if one is
abbrev pub sent_events : ℕ → Option Given → List Event
sent_events moment None = []
sent_events moment (Some g) = event.Sent g.waiting.id moment (sent_ecn g.mark g.waiting.packet.ecn) g.mark ∷ []

-- the answer to a dequeue
abbrev pub dequeue_answer : Option Given → Answer
dequeue_answer None = answer.Idle
dequeue_answer (Some g) = answer.Sent

-- An enqueue that is not refused: the packet waits under the next id, and what the discipline loses is dropped
-- as overflow.
pub record Admits {Q : Type 0} (d : Discipline Q) (old : State Q) (moment lane : ℕ) (packet : PacketParts)
    (events : List Event) (new : State Q) : Type 0 where
  pub lost : List Waiting
  pub queues : d.admits old.queues (arrival old moment packet) lost new.queues
  pub told : events ≡ event.Accepted lane old.next_id moment (d.flow_of packet.tuple) packet
      ∷ map (drop_event moment cause.Overflow) lost
  pub next_id : new.next_id ≡ old.next_id + 1
  pub last : new.last ≡ moment
  pub closed : new.closed ≡ old.closed

-- A dequeue that is not refused: what the discipline drops is dropped by CoDel, and then a packet is given or not.
pub record Serves {Q : Type 0} (d : Discipline Q) (old : State Q) (moment : ℕ) (given : Option Given)
    (events : List Event) (new : State Q) : Type 0 where
  pub dropped : List Waiting
  pub queues : d.serves old.queues moment dropped given new.queues
  pub told : events ≡ map (drop_event moment cause.Codel) dropped ++ sent_events moment given
  pub next_id : new.next_id ≡ old.next_id
  pub last : new.last ≡ moment
  pub closed : new.closed ≡ old.closed

-- A close that is not refused: the queues stay, and dequeues go on.
pub record Closes {Q : Type 0} (old : State Q) (moment : ℕ) (events : List Event) (new : State Q) : Type 0 where
  pub told : events ≡ event.Closed moment ∷ []
  pub state : new ≡ record old { last = moment; closed = true }

-- what a step does that is not refused: its answer, its events in order, and the new state
abbrev pub Makes : {Q : Type 0} → Discipline Q → State Q → Step → Answer → List Event → State Q → Type 0
Makes d old (Enqueue moment lane packet) said events new =
    (said ≡ answer.Accepted) × Admits d old moment lane packet events new
Makes d old (Dequeue moment) said events new =
    (given : Option Given) × (said ≡ dequeue_answer given) × Serves d old moment given events new
Makes d old (Close moment) said events new = (said ≡ answer.Closed) × Closes old moment events new

-- what a step does: one that is refused has no events and changes nothing, the last moment included
abbrev pub Steps : {Q : Type 0} → Discipline Q → State Q → Step → Answer → List Event → State Q → Type 0
Steps d old step said events new =
    MatchOption (refusal_of old step) (Makes d old step said events new)
    (λ r. (said ≡ answer.Refused r) × (events ≡ []) × (new ≡ old))
