-- A step of any kind, as a scheduler makes it: all that the call for its kind says.
use Rattle.std.specs.Prelude.{◌≡◌, ℕ, ◌-◌, ◌≤◌, Option, Some, None}
use Rattle.packet_core.specs.Packets.{PacketParts}
use Rattle.journal_core.specs.declared.outcome.Answer.{Answer}
use Rattle.journal_core.specs.declared.outcome.Answer.TheVariants as answer
use Rattle.journal_core.specs.declared.step.Sent.{Sent}
use Rattle.journal_core.specs.declared.step.Step.{Step}
use Rattle.journal_core.specs.declared.step.Step.TheVariants.{Enqueue, Dequeue}
use Rattle.sched_core.specs.Schedulers.{ComparesFew, IsAdvanced, IsServed, Scheduler}
use Rattle.journal_core.specs.State.{refusal_of}

-- An enqueue is accepted, and takes one of the room.
pub record IsAccepted (old : Scheduler) (step : Step) (new : Scheduler) : Type 0 where
  pub advances : IsAdvanced old step answer.Accepted new
  pub room : new.room ≡ old.room - 1
  pub few_comparisons : ComparesFew old new
  pub compares : 2 ≤ old.params.flows → 1 ≤ new.comparisons

-- A dequeue is made, which gives that packet or none.
pub record IsDequeued (old : Scheduler) (step : Step) (sent : Option Sent) (new : Scheduler) : Type 0 where
  pub moment : ℕ
  pub dequeues : step ≡ Dequeue moment
  pub serves : IsServed old moment sent new
  pub few_comparisons : ComparesFew old new

-- The close is made.
pub record IsClosed (old : Scheduler) (step : Step) (new : Scheduler) : Type 0 where
  pub advances : IsAdvanced old step answer.Closed new
  pub room : new.room ≡ old.room
  pub few_comparisons : ComparesFew old new

-- what a step leaves behind, by its answer; a refused one leaves everything as it was
abbrev pub GoesOn : Scheduler → Step → Answer → Scheduler → Type 0
GoesOn old step answer.Accepted new = IsAccepted old step new
GoesOn old step answer.Sent new = (sent : Sent) × IsDequeued old step (Some sent) new
GoesOn old step answer.Idle new = IsDequeued old step None new
GoesOn old step answer.Closed new = IsClosed old step new
GoesOn old step (answer.Refused why) new = (refusal_of old.standing.state step ≡ Some why) × (new ≡ old)

-- The step is an enqueue that isn't refused, and no room is reserved.
pub record WantsRoom (old : Scheduler) (step : Step) : Type 0 where
  pub moment : ℕ
  pub lane : ℕ
  pub packet : PacketParts
  pub enqueues : step ≡ Enqueue moment lane packet
  pub fits : refusal_of old.standing.state step ≡ None
  pub none : old.room ≡ 0
