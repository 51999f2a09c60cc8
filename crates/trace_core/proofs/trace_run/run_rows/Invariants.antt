use Rattle.std.proofs.Common.{ℕ, List, []}
use Rattle.journal_core.specs.declared.step.Step.{Step}
use Rattle.journal_core.specs.Happened.{acceptances}
use Rattle.journal_core.specs.Tallies.{HasSeen}
use Rattle.trace_core.specs.Report.{RunsSteps}
use Rattle.row_core.specs.Traces.{HasTaken}
use Rattle.trace_core.proofs.trace_run.run_rows.Given as goal

-- the steps that were taken so far are made, their rows are written, and their packets have come to the tally
abbrev pub invariant-loop-turn : goal.invariant-loop-turn
invariant-loop-turn g l = record {
  runs : (text : List ℕ) → HasTaken text l.initial.rows 0 []
      → (steps : List Step) × HasTaken text l.rows l._turn steps × RunsSteps steps l.initial.sched l.sched l.initial.report l.report;
  seen : HasSeen l.tally (acceptances l.sched.standing.events);
}
