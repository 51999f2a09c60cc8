use Rattle.std.specs.Prelude.{◌≡◌, ℕ, ◌<◌, Bool, List, [], ◌∷◌, ◌++◌, length, set, Option, Some, None, pos, if◌then◌else◌, ◌==◌}
use Rattle.std.specs.List.{list_any}
use Rattle.packet_core.specs.declared.packet.FiveTuple.{FiveTuple}
use Rattle.packet_core.specs.declared.packet.Waiting.{Waiting}
use Rattle.flow_core.specs.FlowLists.{queue_at}
use Rattle.journal_core.specs.Disciplines.{Discipline, Given, Batch, packets_of}
use Rattle.fair_core.specs.FairQueues.{FairQueues, flow_state_at, no_queues, with_flow_state}
use Rattle.fair_core.specs.Turns.{Chain, Policy, Service, TurnMade, service_in}

-- whether the flow is in one of the lists
abbrev pub is_listed : FairQueues → ℕ → Bool
is_listed s flow = list_any (λ other. other == flow) (s.lists.new_flows ++ s.lists.old_flows)

-- A flow that is in no list becomes the last of the new flows, with one quantum of credits (RFC 8290, section 4.1).
abbrev pub with_flow_listed : Policy → FairQueues → ℕ → FairQueues
with_flow_listed p s flow =
    if is_listed s flow then s
    else with_flow_state s (record s.lists { new_flows = s.lists.new_flows ++ flow ∷ [] }) flow
    (record (flow_state_at s flow) { credits = pos p.quantum })

-- the same with those queues
abbrev pub with_queues : FairQueues → List (List Waiting) → FairQueues
with_queues s queues = record s { lists = record s.lists { queues = queues } }

-- A packet arrives at the tail of its flow's queue, the flow is listed, and what overflows is lost.
pub record Arrives (p : Policy) (old : FairQueues) (flow : ℕ) (w : Waiting) (lost : List Waiting)
    (new : FairQueues) : Type 0 where
  pub within : flow < length old.lists.queues
  pub batches : List Batch
  pub overflow : p.overflow (set old.lists.queues flow (queue_at old.lists flow ++ w ∷ [])) batches new.lists.queues
  pub lost_in_order : lost ≡ packets_of batches
  pub rest : new ≡ with_queues (with_flow_listed p old flow) new.lists.queues

-- what a service drops and gives, if there is one
abbrev pub dropped_in : Option Service → List Waiting
dropped_in None = []
dropped_in (Some s) = s.dropped

abbrev pub given_in : Option Service → Option Given
given_in None = None
given_in (Some s) = Some s.given

-- A serving chain is made, and that is what it drops and gives.
pub record ServesNext (p : Policy) (now : ℕ) (old : FairQueues) (dropped : List Waiting) (given : Option Given)
    (new : FairQueues) : Type 0 where
  pub turns : List TurnMade
  pub chain : Chain p now old turns new
  pub dropped_by : dropped ≡ dropped_in (service_in turns)
  pub given_by : given ≡ given_in (service_in turns)

-- The scheduler of FQ-CoDel (RFC 8290, section 4), whatever drops packets: each packet waits in the queue of its flow.
abbrev pub fair_queueing : Policy → ℕ → (FiveTuple → ℕ) → Discipline FairQueues
fair_queueing p flows flow_of = record {
  opening = no_queues flows;
  flow_of = flow_of;
  admits = λ old w lost new. Arrives p old (flow_of w.packet.tuple) w lost new;
  serves = λ old now dropped given new. ServesNext p now old dropped given new;
}
