use Rattle.std.proofs.Common.{take}
use Rattle.journal_core.proofs.Words.{acceptances, IsTallied}
use Rattle.journal_core.proofs.tuple_rows.RowsByTuple.count_noted.Given as goal

-- the events so far are counted
abbrev pub invariant-loop-place : goal.invariant-loop-place
invariant-loop-place l = IsTallied l.self (acceptances l.noted.events) (take l.place l.noted.events)
