use Rattle.std.specs.Prelude.{◌≡◌, ℕ, List, [], ◌∷◌, ◌++◌, drop, length, get_or, replicate, set, pos, Option, Some, None}
use Rattle.codel_core.specs.Verdict.{opening}
use Rattle.packet_core.specs.declared.packet.Waiting.{Waiting}
use Rattle.flow_core.specs.FlowLists.{AreListed, FlowLists, no_flows, queue_at}
use Rattle.fair_core.specs.declared.flow_state.FlowState.{FlowState}
use Rattle.fair_core.specs.declared.fair_queue.FlowList.{FlowList}
use Rattle.fair_core.specs.declared.fair_queue.FlowList.TheVariants.{New, Old}
use Rattle.fair_core.specs.declared.fair_queue.Head.{Head}

-- What a fair scheduler keeps of its flows (RFC 8290, section 4): their queues, the list of new flows and the list of
-- old flows, and a flow state for each flow: its credits, in bytes, and its CoDel state.
pub record FairQueues : Type 0 where
  pub lists : FlowLists
  pub flow_states : List FlowState

-- the flow state of a flow that no packet came to
abbrev pub new_flow_state : FlowState
new_flow_state = record { credits = pos 0; codel = opening }

-- so many flows, none of them in a list, and no packet
abbrev pub no_queues : ℕ → FairQueues
no_queues flows = record { lists = no_flows flows; flow_states = replicate flows new_flow_state }

-- the packets that wait in that flow
abbrev pub queue_of : FairQueues → ℕ → List Waiting
queue_of s flow = queue_at s.lists flow

-- the flow state of that flow
abbrev pub flow_state_at : FairQueues → ℕ → FlowState
flow_state_at s flow = get_or s.flow_states flow new_flow_state

-- these lists, and that flow state of one flow
abbrev pub with_flow_state : FairQueues → FlowLists → ℕ → FlowState → FairQueues
with_flow_state s lists flow flow_state = record { lists = lists; flow_states = set s.flow_states flow flow_state }

-- the flows that are listed are flows, each stands in the lists once, and each flow has a flow state
pub record AreSound (s : FairQueues) : Type 0 where
  pub listed : AreListed s.lists
  pub flow_states : length s.flow_states ≡ length s.lists.queues

-- The flow that is looked at: the head of the list of new flows, or, where that list is empty, of the list of old flows
-- (RFC 8290, section 4.2).
abbrev pub head_of_lists : List ℕ → List ℕ → Option Head
head_of_lists (flow ∷ rest) old = Some (record { flow = flow; from = New })
head_of_lists [] (flow ∷ rest) = Some (record { flow = flow; from = Old })
head_of_lists [] [] = None

abbrev pub head_of : FairQueues → Option Head
head_of s = head_of_lists s.lists.new_flows s.lists.old_flows

-- the list of new flows, and that of old flows, once the head of the list named first has left it
abbrev pub new_behind : FlowList → List ℕ → List ℕ
new_behind New flows = drop 1 flows
new_behind Old flows = flows

abbrev pub old_behind : FlowList → List ℕ → List ℕ
old_behind New flows = flows
old_behind Old flows = drop 1 flows

-- that flow leaves the head of its list
abbrev pub unlisted : FlowLists → Head → FlowLists
unlisted lists head = record lists {
  new_flows = new_behind head.from lists.new_flows;
  old_flows = old_behind head.from lists.old_flows;
}

-- that flow goes from the head of its list to the end of the list of old flows
abbrev pub to_old : FlowLists → Head → FlowLists
to_old lists head = record lists {
  new_flows = new_behind head.from lists.new_flows;
  old_flows = old_behind head.from lists.old_flows ++ head.flow ∷ [];
}

-- That flow has no packet: a new flow goes to the end of the list of old flows, and an old one leaves the lists (RFC
-- 8290, section 4.2).
abbrev pub emptied_by : FlowList → FlowLists → Head → FlowLists
emptied_by New lists head = to_old lists head
emptied_by Old lists head = unlisted lists head

abbrev pub emptied_lists : FlowLists → Head → FlowLists
emptied_lists lists head = emptied_by head.from lists head
