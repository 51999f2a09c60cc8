use Rattle.std.proofs.Common.{take}
use Rattle.std.specs.List.{flat_map}
use Rattle.link_report.specs.Tables.{AddsToTable}
use Rattle.link_report.specs.StepTables.{step_line}
use Rattle.link_report.proofs.steps.rows.Given as goal

-- the rows so far
abbrev pub invariant-loop-step : goal.invariant-loop-step
invariant-loop-step l = AddsToTable l.initial.table l.table (flat_map step_line (take l.step-index l.steps))
