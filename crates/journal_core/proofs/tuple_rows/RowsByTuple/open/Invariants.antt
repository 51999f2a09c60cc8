use Rattle.std.proofs.Common.{[], take}
use Rattle.journal_core.proofs.Words.{acceptances, IsTallied}
use Rattle.journal_core.proofs.tuple_rows.RowsByTuple.open.Given as goal

abbrev pub invariant-loop-place : goal.invariant-loop-place
invariant-loop-place l = IsTallied l.rows (acceptances (take l.place l.events)) []
