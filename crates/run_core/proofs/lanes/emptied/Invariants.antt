use Rattle.run_core.proofs.LaneRunLemmas.{Emptying}
use Rattle.run_core.proofs.lanes.emptied.Given as goal

abbrev pub invariant-loop-left : goal.invariant-loop-left
invariant-loop-left g l = Emptying l.fn.device l.lane l.now l.left l.device

abbrev pub decreases-loop-left : goal.decreases-loop-left
decreases-loop-left g l = l.left
