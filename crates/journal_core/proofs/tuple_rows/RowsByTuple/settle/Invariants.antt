use Rattle.std.proofs.Common.{◌≡◌, ◌++◌, drop, map, take}
use Rattle.journal_core.proofs.Words.{settled}
use Rattle.journal_core.proofs.tuple_rows.RowsByTuple.settle.Given as goal

-- the rows so far are settled, and the others are as they were
abbrev pub invariant-loop-place : goal.invariant-loop-place
invariant-loop-place l = l.self.rows.items ≡ map settled (take l.place l.fn.self.rows.items) ++ drop l.place l.fn.self.rows.items
