use Rattle.run_core.proofs.LaneRunLemmas.{Emptied}
use Rattle.run_core.proofs.lanes.empty.Given as goal

abbrev pub invariant-loop-packet : goal.invariant-loop-packet
invariant-loop-packet g l = Emptied l.fn.device l.now l._packet l.device
