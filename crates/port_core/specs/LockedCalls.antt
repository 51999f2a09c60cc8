-- What the calls of a locked port answer: each answer is one that an engine gives by this call's step alone, and that
-- engine is a run of its steps.
use Rattle.std.specs.Prelude.{◌≡◌, ◌++◌, ◌∷◌, [], ℕ, Option}
use Rattle.packet_core.specs.Packets.{PacketParts}
use Rattle.journal_core.specs.Calls.{admitted_at}
use Rattle.journal_core.specs.Runs.{IsRunOf}
use Rattle.journal_core.specs.State.{IsRefusal, refusal_of}
use Rattle.journal_core.specs.declared.outcome.Answer.TheVariants as answer
use Rattle.journal_core.specs.declared.step.Admitted.{Admitted}
use Rattle.journal_core.specs.declared.step.Refusal.{Refusal}
use Rattle.journal_core.specs.declared.step.Sent.{Sent}
use Rattle.journal_core.specs.declared.step.Step.{Step}
use Rattle.journal_core.specs.declared.step.Step.TheVariants.{Close, Dequeue, Enqueue}
use Rattle.sched_core.specs.Engines.{Running}
use Rattle.sched_core.specs.Schedulers.{IsAdvanced, IsServed, discipline_of}
use Rattle.port_core.specs.Ports.{moment_at}

-- An engine is a run of its steps, from its opening on.
abbrev pub IsRunOfItsSteps : Running → Type 0
IsRunOfItsSteps e = IsRunOf (discipline_of e.sched) e.steps e.sched.standing

-- So an engine accepts the packet from that lane, where it is asked at `now`.
pub record IsAcceptedBy (lane now : ℕ) (packet : PacketParts) (a : Admitted) : Type 0 where
  pub old : Running
  pub new : Running
  pub made : IsAdvanced old.sched (Enqueue (moment_at old now) lane packet) answer.Accepted new.sched
  pub is : a ≡ admitted_at (discipline_of old.sched) old.sched.standing.state (moment_at old now) packet
  pub steps : new.steps ≡ old.steps ++ Enqueue (moment_at old now) lane packet ∷ []
  pub run : IsRunOfItsSteps old

-- So an engine answers a dequeue, where it is asked at `now`.
pub record IsServedBy (now : ℕ) (sent : Option Sent) : Type 0 where
  pub old : Running
  pub new : Running
  pub made : IsServed old.sched (moment_at old now) sent new.sched
  pub steps : new.steps ≡ old.steps ++ Dequeue (moment_at old now) ∷ []
  pub run : IsRunOfItsSteps old

-- So an engine answers a close, where it is asked at `now`.
pub record IsClosedBy (now moment : ℕ) : Type 0 where
  pub old : Running
  pub new : Running
  pub made : IsAdvanced old.sched (Close (moment_at old now)) answer.Closed new.sched
  pub is : moment ≡ moment_at old now
  pub steps : new.steps ≡ old.steps ++ Close (moment_at old now) ∷ []
  pub run : IsRunOfItsSteps old

-- So an engine refuses a step, where it is asked at `now`: for the first of its refusals, or for want of memory where
-- there is none.
pub record IsRefusedBy (step : ℕ → Step) (now : ℕ) (why : Refusal) : Type 0 where
  pub old : Running
  pub is : IsRefusal (refusal_of old.sched.standing.state (step (moment_at old now))) why
  pub run : IsRunOfItsSteps old
