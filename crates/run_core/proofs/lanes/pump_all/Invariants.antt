use Rattle.run_core.specs.DeviceRuns.{IsBurst, PumpsLanes}
use Rattle.run_core.specs.Journals.{IsSameDevice}
use Rattle.run_core.proofs.lanes.pump_all.Given as goal

abbrev pub invariant-loop-lane : goal.invariant-loop-lane
invariant-loop-lane g l = IsSameDevice l.fn.device l.device × PumpsLanes IsBurst l.now l.fn.device.engine.steps l.lane l.device.engine.steps
