use Rattle.std.proofs.Common.{◌≡◌, false, take}
use Rattle.run_core.specs.DeviceRuns.{has_close}
use Rattle.run_core.proofs.locked.has_close.Given as goal

abbrev pub invariant-loop-step : goal.invariant-loop-step
invariant-loop-step l = has_close (take l.step-index l.steps) ≡ false
