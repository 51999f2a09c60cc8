use Rattle.std.proofs.Common.{◌≡◌, ◌++◌, All, length, map}
use Rattle.std.specs.Vec.Iter.{into_iter_items, into_iter_len}
use Rattle.port_core.specs.declared.gate.Stop.TheVariants as stop
use Rattle.run_core.specs.Journals.{sender_row_of}
use Rattle.run_core.proofs.locked.rows_of.Given as goal

abbrev pub invariant-loop-sender : goal.invariant-loop-sender
invariant-loop-sender g l =
    (l.rows.items ++ map (λ d. sender_row_of d.calls d.seat) (into_iter_items l.sender-iterator) ≡ map (λ d. sender_row_of d.calls d.seat) l.fn.done.items)
    × (l.seats.items ++ map (λ d. d.seat) (into_iter_items l.sender-iterator) ≡ map (λ d. d.seat) l.fn.done.items)
    × (All (λ d. d.stop ≡ stop.Done) (into_iter_items l.sender-iterator) → All (λ d. d.stop ≡ stop.Done) l.fn.done.items)
    × (into_iter_len l.sender-iterator ≡ length (into_iter_items l.sender-iterator))
    × (goal.iterator-loop-sender g).can_next l.sender-iterator
    × (goal.iterator-loop-sender g).is_finite l.sender-iterator
