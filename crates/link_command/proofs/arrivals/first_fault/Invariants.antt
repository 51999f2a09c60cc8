use Rattle.std.proofs.Common.{ℕ, ◌+◌, List}
use Rattle.row_core.specs.Traces.{HasTaken}
use Rattle.link_command.specs.ArrivalTexts.{IsOwnFault}
use Rattle.link_command.proofs.arrivals.first_fault.Given as goal

-- the steps so far are those of the records so far, and the one at the place is still no arrival
abbrev pub invariant-loop-turn : goal.invariant-loop-turn
invariant-loop-turn g l = (text : List ℕ) (turns place : ℕ) → HasTaken text l.initial.rows turns l.initial.steps.items → IsOwnFault l.initial.steps.items place l.own
    → HasTaken text l.rows (turns + l._turn) l.steps.items × IsOwnFault l.steps.items place l.own
