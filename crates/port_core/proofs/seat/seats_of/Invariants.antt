use Rattle.std.proofs.Common.{◌≡◌, ◌+◌}
use Rattle.port_core.specs.Ports.{new_seats}
use Rattle.port_core.proofs.seat.seats_of.Given as goal

abbrev pub invariant-loop-lane : goal.invariant-loop-lane
invariant-loop-lane g l = (l.all.items ≡ new_seats l.lane) × (l.accepted.parts + l.lane ≡ l.seats) × (l.sent.parts + l.lane ≡ l.seats) × (l.accepted.amount ≡ 0) × (l.sent.amount ≡ 0)
