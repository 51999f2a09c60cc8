use Rattle.std.proofs.Common.{take}
use Rattle.std.specs.List.{flat_map}
use Rattle.link_report.specs.Tables.{AddsToTable}
use Rattle.link_report.specs.FlowTables.{group_line}
use Rattle.link_report.proofs.flows.group_rows.Given as goal

-- the rows so far
abbrev pub invariant-loop-group : goal.invariant-loop-group
invariant-loop-group l = AddsToTable l.initial.table l.table (flat_map (group_line l.queue l.span) (take l.group-index l.groups))
