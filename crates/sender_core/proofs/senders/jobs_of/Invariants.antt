use Rattle.std.proofs.Common.{◌≡◌, ◌+◌, ◌++◌, length, map, take}
use Rattle.std.specs.Vec.Iter.{into_iter_items, into_iter_len}
use Rattle.sender_core.proofs.senders.jobs_of.Given as goal

abbrev pub invariant-loop-seat : goal.invariant-loop-seat
invariant-loop-seat g l =
    (map (λ j. j.seat) l.jobs.items ++ into_iter_items l.seat-iterator ≡ l.fn.seats.items)
    × (map (λ j. j.packets.now) l.jobs.items ≡ map (λ v. v.items) (take l.next l.lists))
    × (map (λ j. j.gate.now) l.jobs.items ≡ take l.next l.gates)
    × (l.next + length (into_iter_items l.seat-iterator) ≡ length l.fn.seats.items)
    × (into_iter_len l.seat-iterator ≡ length (into_iter_items l.seat-iterator))
    × (goal.iterator-loop-seat g).can_next l.seat-iterator
    × (goal.iterator-loop-seat g).is_finite l.seat-iterator
