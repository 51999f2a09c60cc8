use Rattle.std.proofs.Common.{◌≡◌, ℕ, ◌<◌, get_or, length, slice_index_or}
use Rattle.port_core.specs.Ports.{Seat}
use Rattle.port_core.proofs.settling.are_done.Given as goal

abbrev pub invariant-loop-seat : goal.invariant-loop-seat
invariant-loop-seat g l = (k : ℕ) (d : Seat) → k < l.seat-index
    → ((slice_index_or l.seats k d).lane < 65)
    × (get_or l.met ((slice_index_or l.seats k d).lane) 0 ≡ length (slice_index_or l.seats k d).told)
