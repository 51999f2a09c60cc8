use Rattle.std.proofs.Common.{◌≡◌, ◌*◌, ◌≤◌, sum_by, take}
use Rattle.link_report.specs.declared.packets.PacketRecord.{PacketRecord}
use Rattle.link_report.proofs.summary.bytes.Given as goal

-- the sum so far
abbrev pub invariant-loop-packet : goal.invariant-loop-packet
invariant-loop-packet l =
    (l.total ≡ sum_by (λ (p : PacketRecord). p.len) (take l.packet-index l.packets)) × (l.total ≤ 65535 * l.packet-index)
