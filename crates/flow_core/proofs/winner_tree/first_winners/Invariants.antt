use Rattle.std.proofs.Common.{◌≡◌, ◌*◌, ◌≤◌, vec_len}
use Rattle.flow_core.specs.WinnerNodes.{AreBelowFrom}
use Rattle.flow_core.proofs.winner_tree.first_winners.Given as goal

-- the nodes from this one on hold flows below them
abbrev pub invariant-loop-node : goal.invariant-loop-node
invariant-loop-node l = record {
  within : l.node ≤ 2 * l.leaves;
  size : vec_len l.winners ≡ 2 * l.leaves;
  held : AreBelowFrom l.leaves l.node l.winners.items;
}

abbrev pub decreases-loop-node : goal.decreases-loop-node
decreases-loop-node l = l.node
