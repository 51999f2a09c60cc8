use Rattle.std.proofs.Common.{◌<◌, ◌≤◌, length, take}
use Rattle.run_core.specs.DeviceRuns.{ServesRows}
use Rattle.run_core.specs.Journals.{IsSameDevice, ShowsRow}
use Rattle.run_core.proofs.lanes.serve.Given as goal

abbrev pub invariant-loop-step : goal.invariant-loop-step
invariant-loop-step g l = IsSameDevice l.fn.device l.device
    × ServesRows (length l.fn.device.lanes) 0 l.fn.device.engine.steps (take l.step-index l.steps) l.now l.device.engine.steps
    × (l.step-index ≤ length l.steps) × (0 < l.readers → ShowsRow l.steps l.step-index l.device)
