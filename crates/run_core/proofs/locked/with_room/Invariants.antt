use Rattle.std.proofs.Common.{◌≡◌}
use Rattle.run_core.proofs.locked.with_room.Given as goal

abbrev pub invariant-loop-sender : goal.invariant-loop-sender
invariant-loop-sender g l = l.seats.items ≡ l.fn.seats.items
