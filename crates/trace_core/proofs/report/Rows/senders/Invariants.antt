use Rattle.std.proofs.Common.{take}
use Rattle.std.specs.List.{flat_map}
use Rattle.trace_core.specs.Report.{AddsToReport, sender_line}
use Rattle.trace_core.proofs.report.Rows.senders.Given as goal

-- the rows of the senders so far
abbrev pub invariant-loop-sender : goal.invariant-loop-sender
invariant-loop-sender l = AddsToReport l.initial.self l.self (flat_map sender_line (take l.sender-index l.senders))
