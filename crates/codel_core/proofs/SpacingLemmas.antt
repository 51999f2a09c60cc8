-- The spacing that the drop schedule is made of is the one that the code finds: the search from above gives the
-- interval divided by the root of the count, rounded down, and no other number is that.
use Rattle.std.proofs.Common.{◌≡◌, ℕ, zero, suc, ◌+◌, ◌*◌, ◌/◌, ◌<◌, ◌≤◌, inl, inr, arith}
use Rattle.std.proofs.Math.Nat.{div-lt_iff_lt-mul, le-div_iff_mul-le, mul-le-mul, mul-le-mul_left, mul-le-mul_right}
use Rattle.std.proofs.lemmas.Bool.{cases_lt}
use Rattle.std.proofs.lemmas.Bool.Decides.{leb_tells}
use Rattle.codel_core.specs.Root.{IsRoot}
use Rattle.codel_core.specs.Spacing.{IsSpacing}
use Rattle.codel_core.specs.Schedule.{greatest_root, spacing_of}

-- a root that fits is at most the one behind which nothing fits
root_le : (a b n v : ℕ) → a * a * n ≤ v → v < (b + 1) * (b + 1) * n → a ≤ b
root_le a b n v low high =
    elim (cases_lt b a) [
      | inl less ↦
          let more : b + 1 ≤ a = omega arith in
          let squares : (b + 1) * (b + 1) * n ≤ a * a * n = mul-le-mul_right n (mul-le-mul more more) in
          absurd (omega arith)
      | inr most ↦ most
    ]

-- what the search from above finds fits, and the next number does not, where nothing above the start fits
greatest_fits : (v n most : ℕ) → v < (most + 1) * (most + 1) * n
    → (greatest_root v n most * greatest_root v n most * n ≤ v)
    × (v < (greatest_root v n most + 1) * (greatest_root v n most + 1) * n)
greatest_fits v n zero high = (omega arith, high)
greatest_fits v n (suc m) high =
    elim (leb_tells (suc m * suc m * n) v) [
      | inl t ↦ rw t.0 (t.1, high)
      | inr t ↦
          let next : m + 1 ≡ suc m = omega arith in
          let less : v < (m + 1) * (m + 1) * n = rw next t.1 in
          rw t.0 (greatest_fits v n m less)
    ]

-- the square of a number behind the interval is above the interval's
square_above : (interval n : ℕ) → 1 ≤ n → interval * interval < (interval + 1) * (interval + 1) * n
square_above interval n some =
    let least : (interval + 1) * (interval + 1) * 1 ≤ (interval + 1) * (interval + 1) * n =
    mul-le-mul_left ((interval + 1) * (interval + 1)) some in
    omega arith

-- the schedule's spacing is one
pub spacing_is : (interval n : ℕ) → 1 ≤ n → IsSpacing interval n (spacing_of interval n)
unfolding spacing_of
spacing_is interval n some = greatest_fits (interval * interval) n interval (square_above interval n some)

-- and no other number is
pub one_spacing_is : (interval n r : ℕ) → 1 ≤ n → IsSpacing interval n r → r ≡ spacing_of interval n
one_spacing_is interval n r some h =
    let s = spacing_is interval n some in
    omega (arith, root_le r (spacing_of interval n) n (interval * interval) h.0 s.1, root_le (spacing_of interval n) r n (interval * interval) s.0 h.1)

-- it is at most the interval
pub spacing_le : (interval n : ℕ) → 1 ≤ n → spacing_of interval n ≤ interval
spacing_le interval n some = root_le (spacing_of interval n) interval n (interval * interval) (spacing_is interval n some).0 (square_above interval n some)

-- the root of the interval's square over n is the spacing: what the quotient leaves out does not count
pub spacing_from_root : (interval n r : ℕ) → 0 < n → IsRoot (interval * interval / n) r → IsSpacing interval n r
spacing_from_root interval n r some h = ((le-div_iff_mul-le some).0 h.0, (div-lt_iff_lt-mul some).0 h.1)
