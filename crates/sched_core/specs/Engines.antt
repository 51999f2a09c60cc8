use Rattle.std.specs.Prelude.{◌≡◌, ℕ, ◌-◌, ◌≤◌, List, [], None, if◌then◌else◌, length}
use Rattle.packet_core.specs.declared.flow.Seed.{Seed}
use Rattle.packet_core.specs.declared.params.ParamFields.{ParamFields}
use Rattle.journal_core.specs.declared.step.Step.{Step}
use Rattle.journal_core.specs.declared.outcome.Answer.{Answer}
use Rattle.journal_core.specs.declared.outcome.Outcome.{Outcome}
use Rattle.journal_core.specs.MadeFor.{MadeFor, made_for_any}
use Rattle.journal_core.specs.Runs.{IsRun, IsRunOf, is_refused, steps_made}
use Rattle.fair_core.specs.FqCodel.{fq_codel}
use Rattle.sched_core.specs.LastSteps.{AreFewOfLast, AreTurnsOfLast}
use Rattle.sched_core.specs.Schedulers.{Scheduler, discipline_of, new_scheduler_for}
use Rattle.journal_core.specs.State.{refusal_of}

-- An engine as callers see it: its scheduler, the steps that it made, in order, and how many steps more take no memory.
pub record Running : Type 0 where
  pub sched : Scheduler
  pub steps : List Step
  pub room : ℕ

-- before the first step, over a recorder of events that was made for that
abbrev pub new_engine_for : ParamFields → Seed → MadeFor → Running
new_engine_for p seed made_for = record { sched = new_scheduler_for p seed made_for; steps = []; room = 0 }

-- the same, over a recorder of events that doesn't say what it was made for
abbrev pub new_engine : ParamFields → Seed → Running
new_engine p seed = new_engine_for p seed made_for_any

-- the room behind a step: one less, unless the step was refused
abbrev pub room_behind : Answer → ℕ → ℕ
room_behind said room = if is_refused said then room else room - 1

-- The step isn't refused, and no memory is reserved for it.
pub record WantsRoomFor (old : Running) (step : Step) : Type 0 where
  pub fits : refusal_of old.sched.standing.state step ≡ None
  pub none : old.room ≡ 0

-- What an engine keeps of its scheduler, its steps, their recorder's room and the steps that are reserved: the scheduler
-- is the run of the steps, and each reserved step has its room in both.
pub record EngineInvariant (sched : Scheduler) (steps : List Step) (recorder_room reserved : ℕ) : Type 0 where
  pub run : IsRunOf (discipline_of sched) steps sched.standing
  pub in_sched : reserved ≤ sched.room
  pub in_recorder : reserved ≤ recorder_room

-- A new engine of those parameters and that seed has made the first of these steps, with those outcomes.
pub record HasRun (p : ParamFields) (seed : Seed) (steps first : List Step) (outcomes : List Outcome)
    (e : Running) : Type 0 where
  pub run : IsRun (fq_codel p seed) first e.sched.standing outcomes
  pub params_kept : e.sched.params ≡ p
  pub seed_kept : e.sched.seed ≡ seed
  pub one_each : length outcomes ≡ length first
  pub stored : e.steps ≡ steps_made first outcomes (λ o. o.answer)
  pub turns : AreTurnsOfLast p seed steps outcomes e.sched.turns
  pub few : AreFewOfLast p outcomes e.sched.comparisons
