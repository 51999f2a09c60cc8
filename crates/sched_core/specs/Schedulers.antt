use Rattle.std.specs.Prelude.{◌≡◌, ℕ, ◌+◌, ◌-◌, ◌*◌, ◌<◌, ◌≤◌, [], All, length, Option}
use Rattle.packet_core.specs.declared.flow.Seed.{Seed}
use Rattle.packet_core.specs.declared.params.ParamFields.{ParamFields}
use Rattle.flow_core.specs.Winners.{IsLevels}
use Rattle.journal_core.specs.declared.outcome.Answer.{Answer}
use Rattle.journal_core.specs.declared.step.Sent.{Sent}
use Rattle.journal_core.specs.declared.step.Step.{Step}
use Rattle.journal_core.specs.Calls.{Advances, Gives, Standing}
use Rattle.journal_core.specs.Disciplines.{Discipline}
use Rattle.journal_core.specs.Happened.{acceptances}
use Rattle.journal_core.specs.MadeFor.{MadeFor, made_for_any}
use Rattle.fair_core.specs.FairQueues.{FairQueues, no_queues}
use Rattle.fair_core.specs.FqCodel.{fq_codel}
use Rattle.fair_core.specs.NewFlows.{IsFirstReady, SendsFrom}
use Rattle.journal_core.specs.State.{opening_state}
use Rattle.fair_core.specs.TurnBound.{turns_at_most}
use Rattle.fair_core.specs.Turns.{service_in}

-- A scheduler as callers see it: what it was made with, its state and its journal, the turns of the last dequeue that
-- wasn't refused, the comparisons of two flows' bytes in the last step that wasn't refused, how many enqueues more take
-- no memory, for how many packets its flows have memory, and what its recorder was made for.
pub record Scheduler : Type 0 where
  pub params : ParamFields
  pub seed : Seed
  pub standing : Standing FairQueues
  pub turns : ℕ
  pub comparisons : ℕ
  pub room : ℕ
  pub capacity : ℕ
  pub made_for : MadeFor

-- before the first step, over a recorder that was made for that
abbrev pub new_scheduler_for : ParamFields → Seed → MadeFor → Scheduler
new_scheduler_for p seed made_for = record {
  params = p;
  seed = seed;
  standing = record { state = opening_state (no_queues p.flows); events = [] };
  turns = 0;
  comparisons = 0;
  room = 0;
  capacity = 0;
  made_for = made_for;
}

-- the same, over a recorder that doesn't say what it was made for
abbrev pub new_scheduler : ParamFields → Seed → Scheduler
new_scheduler p seed = new_scheduler_for p seed made_for_any

-- what it schedules by
abbrev pub discipline_of : Scheduler → Discipline FairQueues
discipline_of s = fq_codel s.params s.seed

-- its flows
abbrev pub flows_of : Scheduler → FairQueues
flows_of s = s.standing.state.queues

-- Where a recorder says for how many packets it was made, that is for `limit` and one more, or for more than these.
abbrev pub IsMadeFor : ℕ → MadeFor → Type 0
IsMadeFor limit made_for = 0 < made_for.packets → limit + 1 ≤ made_for.packets

-- A step is made that is no dequeue. What the scheduler was made with stays, and so do the turns of the last dequeue
-- and the memory that there is.
pub record IsAdvanced (old : Scheduler) (step : Step) (answer : Answer) (new : Scheduler) : Type 0 where
  pub advances : Advances (discipline_of old) old.standing step answer new.standing
  pub params : new.params ≡ old.params
  pub seed : new.seed ≡ old.seed
  pub turns : new.turns ≡ old.turns
  pub capacity : old.capacity ≤ new.capacity
  pub made_for : new.made_for ≡ old.made_for

-- A dequeue is made: a serving chain, whose turns are told, and whose packet is answered. It has no more turns than the
-- bound, which is three for each new flow and two for each old one where no packet so far was longer than a quantum;
-- and new flows go first.
pub record IsServed (old : Scheduler) (moment : ℕ) (sent : Option Sent) (new : Scheduler) : Type 0 where
  pub gives : Gives (discipline_of old) old.standing moment sent new.standing
  pub turns : new.turns ≡ length gives.serves.queues.turns
  pub bound : new.turns ≤ turns_at_most old.params.quantum (flows_of old)
  pub short : All (λ a. a.packet.len ≤ old.params.quantum) (acceptances old.standing.events)
      → new.turns ≤ 3 * length (flows_of old).lists.new_flows + 2 * length (flows_of old).lists.old_flows
  pub new_first : (flow : ℕ) → IsFirstReady (flows_of old) flow
      → SendsFrom flow (flows_of old).lists.queues (service_in gives.serves.queues.turns) (flows_of new).lists.queues
  pub params : new.params ≡ old.params
  pub seed : new.seed ≡ old.seed
  pub room : new.room ≡ old.room
  pub capacity : new.capacity ≡ old.capacity
  pub made_for : new.made_for ≡ old.made_for

-- A step compared the bytes of two flows at most as often, for each event of its own, as a tree over the flows has
-- levels.
pub record ComparesFew (old new : Scheduler) : Type 0 where
  pub levels : ℕ
  pub over_flows : IsLevels old.params.flows levels
  pub most : new.comparisons ≤ levels * (length new.standing.events - length old.standing.events)
