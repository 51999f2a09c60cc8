-- How the fields give what callers see, and what they keep.
use Rattle.std.specs.Prelude.{◌≡◌, ◌≤◌, All, length, map, sum_by}
use Rattle.packet_core.specs.Packets.{IsLengthInRange}
use Rattle.codel_core.specs.Queue.{bytes_of}
use Rattle.flow_core.specs.declared.flows.Flows.TheInside.{Inside}
use Rattle.codel_core.specs.declared.limits.TheConstants.{MAX_WAITING}
use Rattle.flow_core.specs.declared.limits.TheConstants.{MAX_FLOWS}
use Rattle.flow_core.specs.FlowLists.{Holding}

-- the flows as callers see them
abbrev pub holding_of : Inside → Holding
holding_of f = record {
  lists = record {
    queues = f.chains.queues;
    new_flows = f.listed.new_flows;
    old_flows = f.listed.old_flows;
  };
  capacity = f.chains.capacity;
  comparisons = f.winners.comparisons;
}

-- The chains, the lists and the tree are of the same flows, the tree has the bytes of each queue, each packet has a
-- length in range, and all lengths add up to the total.
pub record IsKept (f : Inside) : Type 0 where
  pub least : 1 ≤ length f.chains.queues
  pub most : length f.chains.queues ≤ MAX_FLOWS
  pub flows : f.listed.flows ≡ length f.chains.queues
  pub bytes : f.winners.bytes ≡ map bytes_of f.chains.queues
  pub lengths : All (All (λ w. IsLengthInRange w.packet.len)) f.chains.queues
  pub few : sum_by length f.chains.queues ≤ MAX_WAITING
  pub total : f.total_bytes ≡ sum_by bytes_of f.chains.queues
