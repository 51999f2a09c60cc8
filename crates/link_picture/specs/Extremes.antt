-- The longest wait and the greatest rate of a picture's lines, which its scales have.
use Rattle.std.specs.Prelude.{◌≡◌, ◌<◌, ◌≤◌, ℕ, zero, suc, ◌+◌, ◌*◌, ◌/◌, ◌^◌, List, fold, max, min, unwrap_or}
use Rattle.link_picture.specs.declared.bins.Bin.{Bin}
use Rattle.link_picture.specs.declared.content.Content.{Content}
use Rattle.link_picture.specs.declared.scales.TheConstants.{LEAST_WAIT, RATE_SPAN, USUAL_WAIT}
use Rattle.link_picture.specs.declared.scales.RateScale.{RateScale}
use Rattle.link_picture.specs.declared.scales.WaitScale.{WaitScale}
use Rattle.link_picture.specs.Octave.{IsPowerOfTen, octave_of}
use Rattle.link_picture.specs.Percentages.{CurveParts}
use Rattle.link_picture.specs.Points.{bin_rate_of}

-- the longest wait in some bins, and at least the one given
abbrev pub longest_in : ℕ → List Bin → ℕ
longest_in wait bins = fold (λ longest (bin : Bin). max longest (unwrap_or bin.longest 0)) wait bins

-- the same in the bins of some lines
abbrev pub longest_of : ℕ → List CurveParts → ℕ
longest_of wait curves = fold (λ longest (curve : CurveParts). longest_in longest curve.bins) wait curves

-- the longest wait of both queues
abbrev pub longest_wait : Content → ℕ
longest_wait content = longest_of (longest_of 0 content.scheduler.items) content.fifo.items

-- the greatest rate in some bins of a width, and at least the one given
abbrev pub rate_in : ℕ → ℕ → List Bin → ℕ
rate_in width rate bins = fold (λ most (bin : Bin). max most (bin_rate_of width bin)) rate bins

-- the same in the bins of some lines
abbrev pub rate_of_all : ℕ → ℕ → List CurveParts → ℕ
rate_of_all width rate curves = fold (λ most (curve : CurveParts). rate_in width most curve.bins) rate curves

-- the greatest rate of both queues
abbrev pub greatest_rate : Content → ℕ
greatest_rate content =
    rate_of_all content.axis.width (rate_of_all content.axis.width 0 content.scheduler.items) content.fifo.items

-- The scale goes from the least wait to that wait, or a usual one where it is shorter, and a little further.
pub record IsWaitScale (longest : ℕ) (scale : WaitScale) : Type 0 where
  pub low : scale.low ≡ octave_of LEAST_WAIT
  pub high : scale.high ≡ max (octave_of (max longest USUAL_WAIT)) (octave_of LEAST_WAIT) + 128

-- the lower of two rates, of which the second one counts where it is above 0
abbrev pub lower_rate : ℕ → ℕ → ℕ
lower_rate least zero = least
lower_rate least (suc rate) = min least (suc rate)

-- the least rate above 0 in some bins of a width, and at most the one given
abbrev pub least_rate_in : ℕ → ℕ → List Bin → ℕ
least_rate_in width rate bins = fold (λ least (bin : Bin). lower_rate least (bin_rate_of width bin)) rate bins

-- the same in the bins of some lines
abbrev pub least_rate_of_all : ℕ → ℕ → List CurveParts → ℕ
least_rate_of_all width rate curves = fold (λ least (curve : CurveParts). least_rate_in width least curve.bins) rate curves

-- the least rate above 0 of both queues, and at most the one given
abbrev pub least_rate : ℕ → Content → ℕ
least_rate most content =
    least_rate_of_all content.axis.width (least_rate_of_all content.axis.width most content.scheduler.items) content.fifo.items

-- Where a scale begins that has both rates: at the lower one, at most a tenth of the greater and at least that one's
-- millionth.
abbrev pub scale_begin : ℕ → ℕ → ℕ
scale_begin least most = max (max (min least (most / 10)) (most / RATE_SPAN)) 1

-- The scale begins at the power of ten at or below that, and ends an octave above the greater rate.
pub record IsRateScale (least most : ℕ) (scale : RateScale) : Type 0 where
  pub power : IsPowerOfTen scale.least
  pub upto : scale.least ≤ scale_begin least most
  pub next : scale_begin least most < 10 * scale.least
  pub low : scale.low ≡ octave_of scale.least
  pub high : scale.high ≡ max (octave_of (max most 1)) (octave_of scale.least) + 1024
