use Rattle.std.proofs.Common.{take}
use Rattle.std.specs.List.{flat_map}
use Rattle.trace_core.specs.Report.{AddsToReport, tuple_line}
use Rattle.trace_core.proofs.report.Rows.tuples.Given as goal

-- the rows of the five-tuples so far
abbrev pub invariant-loop-row : goal.invariant-loop-row
invariant-loop-row l = AddsToReport l.initial.self l.self (flat_map tuple_line (take l.row-index l.tuples))
