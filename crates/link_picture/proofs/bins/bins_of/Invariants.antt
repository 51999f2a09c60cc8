use Rattle.std.proofs.Common.{◌≡◌, ◌*◌, ◌≤◌, take}
use Rattle.std.specs.Prelude.{sum_by}
use Rattle.link_report.specs.Packets.{sent_len}
use Rattle.link_picture.specs.Bins.{bins_of}
use Rattle.link_picture.proofs.bins.bins_of.Given as goal

-- the bins of the packets so far, whose lengths have a bound
abbrev pub invariant-loop-packet : goal.invariant-loop-packet
invariant-loop-packet l = record {
  bins : l.bins.items ≡ bins_of l.axis (take l.packet-index l.packets);
  sums : sum_by sent_len (take l.packet-index l.packets) ≤ 65535 * l.packet-index;
}
