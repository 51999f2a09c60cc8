use Rattle.std.proofs.Common.{take}
use Rattle.std.specs.List.{flat_map}
use Rattle.link_report.specs.Tables.{AddsToTable}
use Rattle.link_report.specs.PacketTables.{packet_line}
use Rattle.link_report.proofs.packet_rows.rows.Given as goal

-- the rows so far
abbrev pub invariant-loop-packet : goal.invariant-loop-packet
invariant-loop-packet l = AddsToTable l.initial.table l.table (flat_map (packet_line l.queue) (take l.packet-index l.packets))
