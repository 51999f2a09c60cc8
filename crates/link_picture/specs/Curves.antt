-- What a picture shows of a line, from its packets.
use Rattle.std.specs.Prelude.{ℕ, List, map}
use Rattle.std.specs.List.{range_with_len}
use Rattle.link_report.specs.declared.packets.PacketRecord.{PacketRecord}
use Rattle.link_report.specs.Summaries.{delays_of}
use Rattle.link_picture.specs.declared.axis.Axis.{Axis}
use Rattle.link_picture.specs.declared.curves.TheConstants.{PERCENTILES}
use Rattle.link_picture.specs.Bins.{bins_of}
use Rattle.link_picture.specs.Counts.{counts_of}
use Rattle.link_picture.specs.Lines.{packets_on}
use Rattle.link_picture.specs.Percentages.{CurveParts, percentiles_of}

-- a line with these packets: its bins, the percentiles from 0 to 100 of the delays of those sent, and how many were
-- dropped, by cause, and marked
abbrev pub curve_of : Axis → List PacketRecord → CurveParts
curve_of axis packets = record {
  bins = bins_of axis packets;
  percentiles = percentiles_of PERCENTILES (delays_of packets);
  counts = counts_of packets;
}

-- so many lines of these packets
abbrev pub curves_of : Axis → List ℕ → ℕ → List PacketRecord → List CurveParts
curves_of axis chosen lines packets =
    map (λ line. curve_of axis (packets_on chosen line packets)) (range_with_len 0 lines)
