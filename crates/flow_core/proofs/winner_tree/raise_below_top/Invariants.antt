use Rattle.std.proofs.Common.{◌<◌, get_or, length, set}
use Rattle.flow_core.specs.WinnerNodes.{WinsOver}
use Rattle.flow_core.proofs.WinnerLemmas.{Climbs}
use Rattle.flow_core.proofs.winner_tree.raise_below_top.Given as goal

-- each node of the climb has the flow for its winner
abbrev pub invariant-loop-node : goal.invariant-loop-node
invariant-loop-node l = record {
  climbs : Climbs (length l.bytes) (set l.bytes l.flow l.own) l.fn.winners l.winners l.flow l.top.node l.node 0;
  some : l.top.node < l.node;
  wins : WinsOver (set l.bytes l.flow l.own) l.flow (get_or l.fn.winners l.top.node 0);
}

abbrev pub decreases-loop-node : goal.decreases-loop-node
decreases-loop-node l = l.node
