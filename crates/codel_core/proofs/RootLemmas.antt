-- Square roots: found digit by digit, in base two, the highest digit first, and found from that of a quarter.
use Rattle.std.proofs.Common.{◌≡◌, ℕ, zero, suc, ◌+◌, ◌-◌, ◌*◌, ◌/◌, ◌^◌, ◌<◌, ◌≤◌, refl, ap, ◌∙◌, subst, inl, inr, arith, pow-add}
use Rattle.std.proofs.Math.Nat.{mul-le-mul}
use Rattle.std.proofs.lemmas.Bool.{cases_lt}
use Rattle.std.proofs.Math.Pow.{pow_mono}
use Rattle.codel_core.specs.Root.{IsRoot}

-- Of the root of v the digits down to one place are found: unit is that place's square, root is the digits times unit,
-- and rest is what v is above the square of the digits times unit. The digits are right: one more in the last place
-- would be too many.
pub record IsPartialRoot (v unit root rest : ℕ) : Type 0 where
  -- how many digits are still to be found
  pub places : ℕ
  -- the digits found, as a number
  pub found : ℕ
  pub unit_is : unit ≡ 2 ^ (places * 2)
  pub root_is : root ≡ found * unit
  pub rest_is : rest + found * found * unit ≡ v
  pub below : v < (found + 1) * (found + 1) * unit

-- a number whose highest bit is bit n is at least the first unit
pub first_unit_le : (v n : ℕ) → 2 ^ n ≤ v → 2 ^ (n / 2 * 2) ≤ v
first_unit_le v n lower = let most : 2 ^ (n / 2 * 2) ≤ 2 ^ n = pow_mono (omega arith) in omega arith

-- the first digit is a one
pub first_digit : (v n : ℕ) → 2 ^ n ≤ v → v < 2 * 2 ^ n → IsPartialRoot v (2 ^ (n / 2 * 2)) (2 ^ (n / 2 * 2)) (v - 2 ^ (n / 2 * 2))
first_digit v n lower upper =
    let least : 2 ^ n ≤ 2 ^ (n / 2 * 2 + 1) = pow_mono (omega arith) in
    let twice : 2 ^ (n / 2 * 2 + 1) ≡ 2 ^ (n / 2 * 2) * 2 = pow-add 2 (n / 2 * 2) 1 in
    let within = first_unit_le v n lower in
    record { places = n / 2; found = 1; unit_is = refl; root_is = omega arith; rest_is = omega arith; below = omega arith }

-- where a place is left, its square is a quarter of the unit
next_unit : (unit places : ℕ) → unit ≡ 2 ^ (places * 2) → 1 < unit → (n : ℕ) × (unit / 4 ≡ 2 ^ (n * 2)) × (unit ≡ 4 * (unit / 4))
next_unit unit zero e some = absurd (omega arith)
next_unit unit (suc n) e some =
    let more : suc n * 2 ≡ n * 2 + 2 = omega arith in
    let whole : unit ≡ 2 ^ (n * 2) * 4 = e ∙ ap (λ k. 2 ^ k) more ∙ pow-add 2 (n * 2) 2 in
    (n, omega arith, omega arith)

-- the same partial root, by a quarter of the unit
by_quarter : {v unit root rest : ℕ} (q : ℕ) → IsPartialRoot v unit root rest → unit ≡ 4 * q → IsPartialRoot v (4 * q) root rest
by_quarter {v} {root = root} {rest = rest} q h e = subst (λ (n : ℕ). IsPartialRoot v n root rest) e h

-- the next digit is a one
pub digit_one : (v unit root rest : ℕ) → IsPartialRoot v unit root rest → 1 < unit → root + unit / 4 ≤ rest → IsPartialRoot v (unit / 4) (root / 2 + unit / 4) (rest - (root + unit / 4))
digit_one v unit root rest h some fits =
    let next = next_unit unit h.places h.unit_is some in
    let q = by_quarter (unit / 4) h next.2 in
    record { places = next.0; found = 2 * q.found + 1; unit_is = next.1; root_is = omega arith; rest_is = omega arith; below = omega arith }

-- the next digit is a zero
pub digit_zero : (v unit root rest : ℕ) → IsPartialRoot v unit root rest → 1 < unit → rest < root + unit / 4 → IsPartialRoot v (unit / 4) (root / 2) rest
digit_zero v unit root rest h some low =
    let next = next_unit unit h.places h.unit_is some in
    let q = by_quarter (unit / 4) h next.2 in
    record { places = next.0; found = 2 * q.found; unit_is = next.1; root_is = omega arith; rest_is = omega arith; below = omega arith }

-- one more than twice the root of a quarter of v has a square that fits 128 bits
pub next_square_fits : (v r : ℕ) → v < 2 ^ 128 → IsRoot (v / 4) r → (r * 2 + 1) * (r * 2 + 1) < 2 ^ 128
next_square_fits v r most h =
    elim (cases_lt r (2 ^ 63)) [
      | inl small ↦
          let within : r * 2 + 1 ≤ 2 ^ 64 - 1 = omega arith in
          let square : (r * 2 + 1) * (r * 2 + 1) ≤ (2 ^ 64 - 1) * (2 ^ 64 - 1) = mul-le-mul within within in
          omega arith
      | inr great ↦ let square : 2 ^ 63 * 2 ^ 63 ≤ r * r = mul-le-mul great great in absurd (omega (arith, h.0))
    ]
