use Rattle.std.proofs.Common.{◌-◌, ◌<◌, ◌≤◌, length, set}
use Rattle.flow_core.proofs.WinnerLemmas.{Climbs}
use Rattle.flow_core.proofs.winner_tree.climb.Given as goal

-- the flow wins at each node of the climb
abbrev pub invariant-loop-node : goal.invariant-loop-node
invariant-loop-node l = record {
  climbs : Climbs (length l.bytes) (set l.bytes l.flow l.own) l.fn.winners l.winners l.flow l.top.node l.node (l.comparisons - 1);
  some : l.top.node < l.node;
  counted : 1 ≤ l.comparisons;
}

abbrev pub decreases-loop-node : goal.decreases-loop-node
decreases-loop-node l = l.node
