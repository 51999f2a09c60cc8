-- The points of a picture, from the bins and the percentiles of its lines. All is in whole numbers, rounded down.
use Rattle.std.specs.Prelude.{ℕ, ◌+◌, ◌-◌, ◌*◌, ◌/◌, List, [], ◌∷◌, Option, max, min, option_map}
use Rattle.link_picture.specs.declared.axis.Axis.{Axis}
use Rattle.link_picture.specs.declared.bins.Bin.{Bin}
use Rattle.link_picture.specs.declared.layout.TheConstants.{PANEL_HEIGHT, PANEL_LEFT, PANEL_WIDTH, RATE_BOTTOM, SHARE_BOTTOM, WAIT_BOTTOM}
use Rattle.link_picture.specs.declared.points.Point.{Point}
use Rattle.link_picture.specs.declared.scales.RateScale.{RateScale}
use Rattle.link_picture.specs.declared.scales.WaitScale.{WaitScale}
use Rattle.link_picture.specs.Axes.{in_64}
use Rattle.link_picture.specs.Octave.{octave_of}

-- the part of an extent that an amount is of a whole, and all of it where the amount is greater
unfoldable pub part_of : ℕ → ℕ → ℕ → ℕ
part_of amount whole extent = min amount whole * extent / whole

-- how far along an extent a value is, on a scale between two of `octave_of`: none of it up to the lower end, and all of it
-- from the upper end on
abbrev pub scale_part : ℕ → ℕ → ℕ → ℕ → ℕ
scale_part low high extent value = part_of (octave_of (max value 1) - low) (high - low) extent

-- how far along an extent a wait is
abbrev pub wait_part : WaitScale → ℕ → ℕ → ℕ
wait_part scale extent wait = scale_part scale.low scale.high extent wait

-- and a rate, which counts as the greatest of 64 bits where it is above that
abbrev pub rate_part : RateScale → ℕ → ℕ → ℕ
rate_part scale extent rate = scale_part scale.low scale.high extent (in_64 rate)

-- so many bins have the panel's width, from the first to the last
abbrev pub bin_x : ℕ → ℕ → ℕ
bin_x count place = PANEL_LEFT + part_of place (max (count - 1) 1) PANEL_WIDTH

-- the point of the longest wait in the bin at a place
abbrev pub wait_point : WaitScale → ℕ → ℕ → Bin → Option Point
wait_point scale count place bin =
    option_map (λ wait. record { x = bin_x count place; y = WAIT_BOTTOM - wait_part scale PANEL_HEIGHT wait }) bin.longest

-- those of bins, of which the first is at that place
abbrev pub wait_points : WaitScale → ℕ → ℕ → List Bin → List (Option Point)
wait_points scale count place [] = []
wait_points scale count place (bin ∷ bins) = wait_point scale count place bin ∷ wait_points scale count (place + 1) bins

-- the point of a percentile
abbrev pub share_point : WaitScale → ℕ → ℕ → Point
share_point scale percent wait = record {
  x = PANEL_LEFT + wait_part scale PANEL_WIDTH wait;
  y = SHARE_BOTTOM - part_of percent 100 PANEL_HEIGHT;
}

-- those of percentiles, from that one on
abbrev pub share_points : WaitScale → ℕ → List ℕ → List Point
share_points scale percent [] = []
share_points scale percent (wait ∷ waits) = share_point scale percent wait ∷ share_points scale (percent + 1) waits

-- what was sent in a bin of a width, in bits a second
abbrev pub bin_rate_of : ℕ → Bin → ℕ
bin_rate_of width bin = bin.sent_bytes * 8000000 / width

-- the point of the throughput in the bin at a place
abbrev pub rate_point : RateScale → Axis → ℕ → Bin → Point
rate_point scale axis place bin = record {
  x = bin_x axis.count place;
  y = RATE_BOTTOM - rate_part scale PANEL_HEIGHT (bin_rate_of axis.width bin);
}

-- those of bins, of which the first is at that place
abbrev pub rate_points : RateScale → Axis → ℕ → List Bin → List Point
rate_points scale axis place [] = []
rate_points scale axis place (bin ∷ bins) = rate_point scale axis place bin ∷ rate_points scale axis (place + 1) bins
