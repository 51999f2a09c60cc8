use Rattle.std.proofs.Common.{take}
use Rattle.std.specs.List.{flat_map}
use Rattle.trace_core.specs.Report.{AddsToReport, note_line}
use Rattle.trace_core.proofs.report.Rows.notes.Given as goal

-- the rows of the notes so far
abbrev pub invariant-loop-note : goal.invariant-loop-note
invariant-loop-note l = AddsToReport l.initial.self l.self (flat_map note_line (take l.note-index l.notes))
