use Rattle.std.proofs.Common.{◌≡◌}
use Rattle.run_core.proofs.locked.device_part.Given as goal

abbrev pub invariant-loop-step : goal.invariant-loop-step
invariant-loop-step g l = (l.seat.lane ≡ l.fn.seat.lane) × (l.seat.told ≡ l.fn.seat.told)
