use Rattle.std.specs.Prelude.{◌≡◌, ◌≢◌, ℕ, ◌+◌, List, [], ◌∷◌, ◌++◌, All, drop, take, get_or, set, slice_get, Option, Some, pos, ◌<ℤ◌}
use Rattle.packet_core.specs.declared.packet.Waiting.{Waiting}
use Rattle.codel_core.specs.declared.served.Mark.{Mark}
use Rattle.flow_core.specs.FlowLists.{queue_at}
use Rattle.fair_core.specs.FairQueues.{FairQueues, flow_state_at}
use Rattle.fair_core.specs.Turns.{Service}

-- the flow may send, and has a packet
pub record IsReady (s : FairQueues) (flow : ℕ) : Type 0 where
  pub credits : pos 0 <ℤ (flow_state_at s flow).credits
  pub waits : queue_at s.lists flow ≢ []

-- the flow is the first one in the list of new flows that is ready
pub record IsFirstReady (s : FairQueues) (flow : ℕ) : Type 0 where
  pub before : List ℕ
  pub behind : List ℕ
  pub place : s.lists.new_flows ≡ before ++ flow ∷ behind
  pub ready : IsReady s flow
  pub others : All (λ other. ¬ IsReady s other) before

-- That service is the flow's: what is dropped and what is given stood at the head of its queue, and no other queue
-- changed.
pub record SendsFrom (flow : ℕ) (queues : List (List Waiting)) (service : Option Service)
    (queues' : List (List Waiting)) : Type 0 where
  pub drops : ℕ
  pub mark : Mark
  pub given : Waiting
  pub stands : slice_get (get_or queues flow []) drops ≡ Some given
  pub served : service
      ≡ Some (record { dropped = take drops (get_or queues flow []); given = record { waiting = given; mark = mark } })
  pub rest : queues' ≡ set queues flow (drop (drops + 1) (get_or queues flow []))
