-- How many packets were dropped, by cause, and how many were marked.
use Rattle.std.specs.Prelude.{List, count_by}
use Rattle.link_report.specs.declared.packets.PacketRecord.{PacketRecord}
use Rattle.link_report.specs.Packets.{is_codel_drop, is_marked, is_overflow_drop}
use Rattle.link_picture.specs.declared.counts.Counts.{Counts}

-- the counts of some packets
abbrev pub counts_of : List PacketRecord → Counts
counts_of packets = record {
  codel_drops = count_by is_codel_drop packets;
  overflow_drops = count_by is_overflow_drop packets;
  marks = count_by is_marked packets;
}
