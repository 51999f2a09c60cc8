-- What became of some packets, in numbers.
use Rattle.std.specs.Prelude.{ℕ, ◌+◌, ◌*◌, ◌/◌, ◌==◌, List, [], ◌∷◌, length, count_by, sum, sum_by, Option, Some, None, if◌then◌else◌}
use Rattle.std.specs.List.{filter_map}
use Rattle.link_report.specs.declared.packets.PacketRecord.{PacketRecord}
use Rattle.link_report.specs.declared.summary.Delays.{Delays}
use Rattle.link_report.specs.declared.summary.Summary.{Summary}
use Rattle.link_report.specs.Packets.{delay_sent, is_codel_drop, is_marked, is_overflow_drop, is_sent, sent_len}
use Rattle.link_report.specs.Percentiles.{percentile_of}

-- the delays of the packets that were sent
abbrev pub delays_of : List PacketRecord → List ℕ
delays_of packets = filter_map delay_sent packets

-- How delays lie. The least is the least member, of which at least 0 in 100 are at most it, and the greatest the least
-- that all are at most.
abbrev pub spread_of : List ℕ → Option Delays
spread_of [] = None
spread_of (d ∷ more) =
    let delays = d ∷ more in
    Some (record {
      min = percentile_of 0 delays;
      mean = sum delays / length delays;
      p50 = percentile_of 50 delays;
      p95 = percentile_of 95 delays;
      p99 = percentile_of 99 delays;
      max = percentile_of 100 delays;
    })

-- bits in a second, of so many bytes in so many microseconds
abbrev pub rate_of : ℕ → ℕ → Option ℕ
rate_of span bytes = if span == 0 then None else Some (bytes * 8000000 / span)

-- what became of some packets of a run that took so many microseconds
abbrev pub summary_of : ℕ → List PacketRecord → Summary
summary_of span packets = record {
  packets = length packets;
  bytes = sum_by (λ p. p.len) packets;
  sent = count_by is_sent packets;
  sent_bytes = sum_by sent_len packets;
  dropped_codel = count_by is_codel_drop packets;
  dropped_overflow = count_by is_overflow_drop packets;
  marked = count_by is_marked packets;
  delays = spread_of (delays_of packets);
  rate = rate_of span (sum_by sent_len packets);
}
