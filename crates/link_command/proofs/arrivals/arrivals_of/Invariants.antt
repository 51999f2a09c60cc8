use Rattle.std.proofs.Common.{ℕ, List, []}
use Rattle.row_core.specs.Traces.{HasTaken}
use Rattle.link_command.proofs.ArrivalLemmas.{AreSoFar}
use Rattle.link_command.proofs.arrivals.arrivals_of.Given as goal

-- the steps so far are those of the records so far, and arrivals, of which the last has that moment
abbrev pub invariant-loop-turn : goal.invariant-loop-turn
invariant-loop-turn g l = (text : List ℕ) → HasTaken text l.initial.rows 0 [] → AreSoFar text l.rows l._turn l.steps.items l.arrivals.items l.last
