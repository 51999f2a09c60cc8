use Rattle.std.proofs.Common.{◌≡◌, ◌+◌, ◌++◌, All, length, map}
use Rattle.std.specs.Vec.Iter.{into_iter_items, into_iter_len}
use Rattle.run_core.specs.Seeing.{AreTotalsOf, IsSeenOf}
use Rattle.run_core.proofs.monitors.seen_of_journal.Given as goal

-- what was read and isn't looked at yet, and what was seen by the others
abbrev pub invariant-loop-one : goal.invariant-loop-one
invariant-loop-one g l =
    (into_iter_len l.one-iterator ≡ length (into_iter_items l.one-iterator))
    × (length (into_iter_items l.one-iterator) + length l.seen.items ≡ length l.fn.read.items)
    × All (λ r. AreTotalsOf r.0 r.1) (into_iter_items l.one-iterator)
    × All (IsSeenOf l.fn.receipt) l.seen.items
    × (l.seen.items ++ map (λ r. r.1) (into_iter_items l.one-iterator) ≡ map (λ r. r.1) l.fn.read.items)
