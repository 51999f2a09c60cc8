-- The points of bins and percentiles, one more.
use Rattle.std.proofs.Common.{◌≡◌, ◌∙◌, ℕ, ◌+◌, ◌<◌, List, [], ◌∷◌, ◌++◌, get_or, take, length, ap, arith}
use Rattle.std.proofs.lemmas.List.{take_more, length-take-le}
use Rattle.link_picture.specs.declared.axis.Axis.{Axis}
use Rattle.link_picture.specs.declared.bins.Bin.{Bin}
use Rattle.link_picture.specs.declared.scales.RateScale.{RateScale}
use Rattle.link_picture.specs.declared.scales.WaitScale.{WaitScale}
use Rattle.link_picture.specs.Points.{rate_point, rate_points, share_point, share_points, wait_point, wait_points}

wait_push : (scale : WaitScale) (count place at : ℕ) (bins : List Bin) (bin : Bin) → at ≡ place + length bins → wait_points scale count place (bins ++ bin ∷ []) ≡ wait_points scale count place bins ++ wait_point scale count at bin ∷ []
wait_push scale count place at [] bin is = let same : place ≡ at = omega arith in ap (λ k. wait_point scale count k bin ∷ []) same
wait_push scale count place at (b ∷ bins) bin is = ap (λ l. wait_point scale count place b ∷ l) (wait_push scale count (place + 1) at bins bin (omega arith))

pub wait_more : (scale : WaitScale) (count i : ℕ) (bins : List Bin) (d : Bin) → i < length bins → wait_points scale count 0 (take (i + 1) bins) ≡ wait_points scale count 0 (take i bins) ++ wait_point scale count i (get_or bins i d) ∷ []
wait_more scale count i bins d low =
    ap (wait_points scale count 0) (take_more bins i d low) ∙ wait_push scale count 0 i (take i bins) (get_or bins i d) (omega (arith, length-take-le i bins (omega arith)))

share_push : (scale : WaitScale) (percent at : ℕ) (waits : List ℕ) (wait : ℕ) → at ≡ percent + length waits → share_points scale percent (waits ++ wait ∷ []) ≡ share_points scale percent waits ++ share_point scale at wait ∷ []
share_push scale percent at [] wait is = let same : percent ≡ at = omega arith in ap (λ k. share_point scale k wait ∷ []) same
share_push scale percent at (w ∷ waits) wait is = ap (λ l. share_point scale percent w ∷ l) (share_push scale (percent + 1) at waits wait (omega arith))

pub share_more : (scale : WaitScale) (i : ℕ) (waits : List ℕ) (d : ℕ) → i < length waits → share_points scale 0 (take (i + 1) waits) ≡ share_points scale 0 (take i waits) ++ share_point scale i (get_or waits i d) ∷ []
share_more scale i waits d low =
    ap (share_points scale 0) (take_more waits i d low) ∙ share_push scale 0 i (take i waits) (get_or waits i d) (omega (arith, length-take-le i waits (omega arith)))

rate_push : (scale : RateScale) (axis : Axis) (place at : ℕ) (bins : List Bin) (bin : Bin) → at ≡ place + length bins → rate_points scale axis place (bins ++ bin ∷ []) ≡ rate_points scale axis place bins ++ rate_point scale axis at bin ∷ []
rate_push scale axis place at [] bin is = let same : place ≡ at = omega arith in ap (λ k. rate_point scale axis k bin ∷ []) same
rate_push scale axis place at (b ∷ bins) bin is = ap (λ l. rate_point scale axis place b ∷ l) (rate_push scale axis (place + 1) at bins bin (omega arith))

pub rate_more : (scale : RateScale) (axis : Axis) (i : ℕ) (bins : List Bin) (d : Bin) → i < length bins → rate_points scale axis 0 (take (i + 1) bins) ≡ rate_points scale axis 0 (take i bins) ++ rate_point scale axis i (get_or bins i d) ∷ []
rate_more scale axis i bins d low =
    ap (rate_points scale axis 0) (take_more bins i d low) ∙ rate_push scale axis 0 i (take i bins) (get_or bins i d) (omega (arith, length-take-le i bins (omega arith)))
