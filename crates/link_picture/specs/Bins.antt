-- What happened to packets in each bin of time.
use Rattle.std.specs.Prelude.{ℕ, ◌+◌, ◌*◌, ◌^◌, ◌<◌, Bool, ◌&&◌, nat_le, nat_lt, List, [], ◌∷◌, Option, Some, None, max, map, fold, filter, filter_map, sum_by, length}
use Rattle.std.specs.List.{range_with_len}
use Rattle.link_report.specs.declared.packets.PacketRecord.{PacketRecord}
use Rattle.link_report.specs.Packets.{delay_sent, last_moment, sent_len}
use Rattle.link_picture.specs.declared.axis.Axis.{Axis}
use Rattle.link_picture.specs.declared.bins.Bin.{Bin}
use Rattle.link_picture.specs.Counts.{counts_of}

-- whether a moment is in the bin with that number: from the number times the width on, and below the next bin
abbrev pub is_in : ℕ → ℕ → ℕ → Bool
is_in width number moment = nat_le (number * width) moment && nat_lt moment ((number + 1) * width)

-- the packets whose fate came in that bin
abbrev pub packets_in : ℕ → ℕ → List PacketRecord → List PacketRecord
packets_in width number packets = filter (λ (p : PacketRecord). is_in width number (last_moment p)) packets

-- the greatest of some numbers
abbrev pub greatest : List ℕ → Option ℕ
greatest [] = None
greatest (x ∷ xs) = Some (fold max x xs)

-- a bin with these packets
abbrev pub bin_of : List PacketRecord → Bin
bin_of packets = record {
  longest = greatest (filter_map delay_sent packets);
  sent_bytes = sum_by sent_len packets;
  counts = counts_of packets;
}

-- the longer of two waits
abbrev pub longer : Option ℕ → Option ℕ → Option ℕ
longer None other = other
longer (Some x) None = Some x
longer (Some x) (Some y) = Some (max x y)

-- the sums of packets leave room for one more in 64 bits
pub record LeavesRoom (packets : List PacketRecord) : Type 0 where
  pub bytes : sum_by sent_len packets < 2 ^ 63
  pub few : length packets < 2 ^ 63

-- so many bins of a width, from the one with that number on
unfoldable pub bins_from : ℕ → ℕ → ℕ → List PacketRecord → List Bin
bins_from width first count packets = map (λ number. bin_of (packets_in width number packets)) (range_with_len first count)

abbrev pub bins_of : Axis → List PacketRecord → List Bin
bins_of axis packets = bins_from axis.width axis.first axis.count packets
