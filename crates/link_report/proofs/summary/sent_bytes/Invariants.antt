use Rattle.std.proofs.Common.{◌≡◌, ◌*◌, ◌≤◌, sum_by, take}
use Rattle.link_report.specs.Packets.{sent_len}
use Rattle.link_report.proofs.summary.sent_bytes.Given as goal

-- the sum so far
abbrev pub invariant-loop-packet : goal.invariant-loop-packet
invariant-loop-packet l =
    (l.total ≡ sum_by sent_len (take l.packet-index l.packets)) × (l.total ≤ 65535 * l.packet-index)
