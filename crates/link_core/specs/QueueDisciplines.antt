-- What a link asks of the queue in front of it: an arrival and a dequeue, by the rules of its discipline.
use Rattle.std.specs.Prelude.{◌≡◌, ℕ, ◌<◌, ◌≤◌, List, [], ◌∷◌, ◌++◌, length, Option, IfSome}
use Rattle.std.specs.List.{filter_map}
use Rattle.packet_core.specs.Packets.{PacketParts}
use Rattle.packet_core.specs.declared.flow.Seed.{Seed}
use Rattle.packet_core.specs.declared.params.ParamFields.{ParamFields}
use Rattle.journal_core.specs.declared.event.Event.{Event}
use Rattle.journal_core.specs.declared.outcome.Answer.TheVariants as answer
use Rattle.journal_core.specs.declared.step.Sent.{Sent}
use Rattle.journal_core.specs.declared.step.Step.{Step}
use Rattle.journal_core.specs.declared.step.Step.TheVariants.{Enqueue, Dequeue}
use Rattle.journal_core.specs.Calls.{Advances, Gives, Standing}
use Rattle.journal_core.specs.Disciplines.{Discipline}
use Rattle.journal_core.specs.MadeFor.{MadeFor}
use Rattle.journal_core.specs.State.{opening_state}
use Rattle.journal_core.specs.Statistics.{sent_of}

-- The steps that were made so far, and the state and the journal that they led to.
pub record Progress (Q : Type 0) : Type 0 where
  pub standing : Standing Q
  pub steps : List Step

-- before the first step
abbrev pub no_progress : {Q : Type 0} → Discipline Q → Progress Q
no_progress d = record { standing = record { state = opening_state d.opening; events = [] }; steps = [] }

-- how many packets were sent
abbrev pub sent_count : List Event → ℕ
sent_count events = length (filter_map sent_of events)

-- The packet came in, by lane 0.
pub record HasArrived {Q : Type 0} (d : Discipline Q) (old : Progress Q) (moment : ℕ) (packet : PacketParts)
    (new : Progress Q) : Type 0 where
  pub advances : Advances d old.standing (Enqueue moment 0 packet) answer.Accepted new.standing
  pub steps : new.steps ≡ old.steps ++ Enqueue moment 0 packet ∷ []

-- A dequeue was made. A packet that it gave is one of those that came, and no more were sent than came.
pub record HasServed {Q : Type 0} (d : Discipline Q) (old : Progress Q) (moment : ℕ) (sent : Option Sent)
    (new : Progress Q) : Type 0 where
  pub gives : Gives d old.standing moment sent new.standing
  pub steps : new.steps ≡ old.steps ++ Dequeue moment ∷ []
  pub known : IfSome sent (λ s. s.id < old.standing.state.next_id)
  pub few : sent_count new.standing.events ≤ new.standing.state.next_id

-- Parameters and a seed that a discipline was made with, and what its recorder was made for. It keeps them.
pub record Setting : Type 0 where
  pub params : ParamFields
  pub seed : Seed
  pub made_for : MadeFor
