use Rattle.std.proofs.Common.{ℕ, List, []}
use Rattle.row_core.specs.Traces.{HasTaken}
use Rattle.row_core.proofs.reader.all_steps.Given as goal

-- the steps so far are those of the records so far
abbrev pub invariant-loop-turn : goal.invariant-loop-turn
invariant-loop-turn g l = (text : List ℕ) → HasTaken text l.initial.rows 0 [] → HasTaken text l.rows l._turn l.steps.items
