-- Of which step of a run a scheduler tells its turns and its comparisons.
use Rattle.std.specs.Prelude.{◌≡◌, ℕ, ◌-◌, ◌*◌, ◌≤◌, Bool, true, false, not, List, ◌∷◌, ◌++◌, All, length, take, slice_get, Some, None}
use Rattle.packet_core.specs.declared.flow.Seed.{Seed}
use Rattle.packet_core.specs.declared.params.ParamFields.{ParamFields}
use Rattle.flow_core.specs.Winners.{IsLevels}
use Rattle.journal_core.specs.declared.outcome.Answer.{Answer}
use Rattle.journal_core.specs.declared.outcome.Answer.TheVariants as answer
use Rattle.journal_core.specs.declared.outcome.Outcome.{Outcome}
use Rattle.journal_core.specs.declared.step.Step.{Step}
use Rattle.journal_core.specs.declared.step.Step.TheVariants.{Dequeue}
use Rattle.fair_core.specs.FairQueues.{FairQueues, no_queues}
use Rattle.fair_core.specs.FqCodel.{fq_codel, fq_codel_policy}
use Rattle.journal_core.specs.Runs.{Made, Runs, is_refused}
use Rattle.journal_core.specs.State.{State, opening_state, refusal_of}
use Rattle.fair_core.specs.Turns.{Chain, TurnMade}

-- whether the answer is that of a dequeue that wasn't refused
abbrev pub is_dequeued : Answer → Bool
is_dequeued answer.Accepted = false
is_dequeued answer.Sent = true
is_dequeued answer.Idle = true
is_dequeued answer.Closed = false
is_dequeued (answer.Refused why) = false

-- whether the answer is that of a step that wasn't refused
abbrev pub is_made : Answer → Bool
is_made said = not (is_refused said)

-- The number is told of the last of these outcomes whose answer passes the test: it holds of its place, of the outcome
-- and of the number. Where none passes it, the number is 0.
pub data AtLast (test : Answer → Bool) (outcomes : List Outcome) (n : ℕ)
    (Holds : ℕ → Outcome → ℕ → Type 0) : Type 0 where
  none : All (λ (o : Outcome). test o.answer ≡ false) outcomes → n ≡ 0 → AtLast test outcomes n Holds
  last : (before behind : List Outcome) (o : Outcome) → outcomes ≡ before ++ o ∷ behind → test o.answer ≡ true
      → All (λ (later : Outcome). test later.answer ≡ false) behind
      → Holds (length before) o n
      → AtLast test outcomes n Holds

-- At that place stands a dequeue, and behind the run of the steps before it its serving chain has so many turns.
pub record IsDequeueOf (p : ParamFields) (seed : Seed) (steps : List Step) (place turns : ℕ) : Type 0 where
  pub moment : ℕ
  pub dequeues : slice_get steps place ≡ Some (Dequeue moment)
  pub made : List Made
  pub before : State FairQueues
  pub runs : Runs (fq_codel p seed) (opening_state (no_queues p.flows)) (take place steps) made before
  pub fits : refusal_of before (Dequeue moment) ≡ None
  pub turns_made : List TurnMade
  pub behind : FairQueues
  pub chain : Chain (fq_codel_policy p) moment before.queues turns_made behind
  pub told : turns ≡ length turns_made

-- These are the turns of the last dequeue of the run that wasn't refused, and none where there was no such dequeue.
abbrev pub AreTurnsOfLast : ParamFields → Seed → List Step → List Outcome → ℕ → Type 0
AreTurnsOfLast p seed steps outcomes turns =
    AtLast is_dequeued outcomes turns (λ place o n. IsDequeueOf p seed steps place n)

-- So many comparisons are few for the step of that outcome: for each of its events at most as many as a tree over the
-- flows has levels.
pub record AreFewFor (p : ParamFields) (o : Outcome) (comparisons : ℕ) : Type 0 where
  pub levels : ℕ
  pub over_flows : IsLevels p.flows levels
  pub most : comparisons ≤ levels * (o.end_event - o.first_event)

-- So many comparisons are few for the last step of the run that wasn't refused, and none where there was no such step.
abbrev pub AreFewOfLast : ParamFields → List Outcome → ℕ → Type 0
AreFewOfLast p outcomes comparisons = AtLast is_made outcomes comparisons (λ place o n. AreFewFor p o n)
