use Rattle.std.proofs.Common.{◌≡◌, ◌+◌, ◌++◌, length, map, take}
use Rattle.std.specs.Vec.Iter.{into_iter_items, into_iter_len}
use Rattle.sender_core.proofs.lane_senders.lane_jobs_of.Given as goal

abbrev pub invariant-loop-sender : goal.invariant-loop-sender
invariant-loop-sender g l =
    (map (λ j. j.sender) l.jobs.items ++ into_iter_items l.sender-iterator ≡ l.fn.senders.items)
    × (map (λ j. j.packets.now) l.jobs.items ≡ map (λ v. v.items) (take l.next l.lists))
    × (map (λ j. j.gate.now) l.jobs.items ≡ take l.next l.gates)
    × (l.next + length (into_iter_items l.sender-iterator) ≡ length l.fn.senders.items)
    × (into_iter_len l.sender-iterator ≡ length (into_iter_items l.sender-iterator))
    × (goal.iterator-loop-sender g).can_next l.sender-iterator
    × (goal.iterator-loop-sender g).is_finite l.sender-iterator
