use Rattle.std.proofs.Common.{◌≡◌, get_or, length, set}
use Rattle.flow_core.specs.WinnerNodes.{IsWinner}
use Rattle.flow_core.proofs.WinnerLemmas.{Climbs}
use Rattle.flow_core.proofs.winner_tree.lower_from.Given as goal

-- the winner at the node has its bytes beside it
abbrev pub invariant-loop-node : goal.invariant-loop-node
invariant-loop-node l = record {
  climbs : Climbs (length l.bytes) (set l.bytes l.flow l.own) l.fn.winners l.winners l.flow l.top.node l.node l.comparisons;
  carried : l.most ≡ get_or (set l.bytes l.flow l.own) l.winner 0;
  own : IsWinner (set l.bytes l.flow l.own) (length l.bytes) l.node l.winner;
}

abbrev pub decreases-loop-node : goal.decreases-loop-node
decreases-loop-node l = l.node
