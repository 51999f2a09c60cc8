use Rattle.std.proofs.Common.{◌+◌, length, set}
use Rattle.flow_core.proofs.TopLemmas.{Rises}
use Rattle.flow_core.proofs.winner_tree.rise.Given as goal

-- the flow and the winner so far are on their ways up
abbrev pub invariant-loop-node : goal.invariant-loop-node
invariant-loop-node l = Rises (length l.bytes) (set l.bytes l.flow l.own) l.winners l.flow l.most l.node l.top.node l.top.height

abbrev pub decreases-loop-node : goal.decreases-loop-node
decreases-loop-node l = l.node + l.top.node
