use Rattle.std.proofs.Common.{◌≡◌, ◌++◌, drop, get_or, map, take}
use Rattle.journal_core.proofs.tuple_rows.RowsByTuple.turn.Given as goal

-- the places so far are turned, and the others are as they were
abbrev pub invariant-loop-place : goal.invariant-loop-place
invariant-loop-place l = l.place-items ≡ map (λ place. get_or l.fn.self.places.items place 0) (take l.place-index l.fn.places.items) ++ drop l.place-index l.fn.places.items
