use Rattle.std.proofs.Common.{◌≡◌, ◌+◌}
use Rattle.run_core.proofs.locked.emptied.Given as goal

abbrev pub invariant-loop-packet : goal.invariant-loop-packet
invariant-loop-packet g l = (l.seat.lane ≡ l.fn.seat.lane) × (l.seat.told ≡ l.fn.seat.told) × (l.seat.sent ≡ l.fn.seat.sent + l._packet)
