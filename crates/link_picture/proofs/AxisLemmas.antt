-- The width of bins, turn by turn, and the last moment of packets.
use Rattle.std.proofs.Common.{◌≡◌, ◌∙◌, ℕ, zero, suc, ◌+◌, ◌-◌, ◌*◌, ◌/◌, ◌%◌, ◌<◌, ◌≤◌, min, Some, None, ap, arith}
use Rattle.std.specs.Prelude.{unwrap_or}
use Rattle.std.proofs.Math.Nat.{le_trans, mul-le-mul_right}
use Rattle.std.proofs.lemmas.Grind.{div_ceil_times}
use Rattle.link_picture.specs.Axes.{in_64, width_after, width_near}

-- a turn that finds none
pub turn_none : (turn width from upto : ℕ) → turn < 20 → width_near width from upto ≡ None → width_after (20 - turn) width from upto ≡ width_after (20 - (turn + 1)) (in_64 (width * 10)) from upto
unfolding width_after
turn_none turn width from upto low none =
    let is : 20 - turn ≡ suc (20 - (turn + 1)) = omega arith in
    ap (λ n. width_after n width from upto) is ∙ ap (λ o. unwrap_or o (width_after (20 - (turn + 1)) (in_64 (width * 10)) from upto)) none

-- and one that finds a width
pub turn_some : (turn width from upto found : ℕ) → turn < 20 → width_near width from upto ≡ Some found → width_after (20 - turn) width from upto ≡ found
unfolding width_after
turn_some turn width from upto found low some =
    let is : 20 - turn ≡ suc (20 - (turn + 1)) = omega arith in
    ap (λ n. width_after n width from upto) is ∙ ap (λ o. unwrap_or o (width_after (20 - (turn + 1)) (in_64 (width * 10)) from upto)) some

-- after the last turn it is the greatest
pub turns_over : (turn width from upto : ℕ) → 20 ≤ turn → width_after (20 - turn) width from upto ≡ 18446744073709551615
unfolding width_after
turns_over turn width from upto over =
    let is : 20 - turn ≡ zero = omega arith in
    ap (λ n. width_after n width from upto) is

pub ruleset turns = (turn_none, turn_some, turns_over)

-- Where a length, divided by a step and rounded up, is so much at most, so many steps reach it.
pub reached : (length steps step : ℕ) → 0 < step → length / step + min 1 (length % step) ≤ steps → length ≤ steps * step
reached length steps step some few = le_trans (div_ceil_times length step some).0 (mul-le-mul_right step few)
