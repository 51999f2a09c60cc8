use Rattle.std.proofs.Common.{take}
use Rattle.std.specs.List.{flat_map}
use Rattle.trace_core.specs.Report.{AddsToReport, event_line}
use Rattle.trace_core.proofs.report.Rows.events.Given as goal

-- the rows of the events so far
abbrev pub invariant-loop-event : goal.invariant-loop-event
invariant-loop-event l = AddsToReport l.initial.self l.self (flat_map event_line (take l.event-index l.events))
