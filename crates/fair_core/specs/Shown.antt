use Rattle.std.specs.Prelude.{ℕ, length}
use Rattle.codel_core.specs.Queue.{bytes_of}
use Rattle.flow_core.specs.FlowLists.{queue_at}
use Rattle.fair_core.specs.declared.flow_view.FlowView.{FlowView}
use Rattle.fair_core.specs.FairQueues.{FairQueues, flow_state_at}

-- what is shown of a flow
abbrev pub flow_shown : FairQueues → ℕ → FlowView
flow_shown s flow = record {
  len = length (queue_at s.lists flow);
  bytes = bytes_of (queue_at s.lists flow);
  credits = (flow_state_at s flow).credits;
  codel = (flow_state_at s flow).codel;
}
