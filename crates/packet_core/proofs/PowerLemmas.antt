-- Powers of two: what has one bit set is one, and its mask gives a remainder.
use Rattle.std.proofs.Common.{◌≡◌, ℕ, zero, suc, ◌-◌, ◌%◌, ◌/◌, ◌≤◌, inl, inr, arith}
use Rattle.std.proofs.Math.Nat.{pow-suc}
use Rattle.std.proofs.lemmas.Bool.{cases_lt}
use Rattle.std.proofs.lemmas.Nat.{and_mask, ones_le_self, zero_from_ones}
use Rattle.std.specs.Int.{IsPowerOfTwo}
use Rattle.std.specs.Prelude.{bit_and, count_ones}
use lib.Count.{ones_step}

-- a number of so many halvings at most
power_within : (d n : ℕ) → n ≤ d → count_ones n ≡ 1 → IsPowerOfTwo n
power_within zero n few one = absurd (omega (arith, ones_le_self n))
power_within (suc d) n few one =
    let step = ones_step n in
    let some = ones_le_self n in
    elim (cases_lt (n % 2) 1) [
      | inl even ↦
          let half = power_within d (n / 2) (omega arith) (omega arith) in
          (suc half.0, omega (arith, half.1, pow-suc 2 half.0))
      | inr odd ↦ (0, omega (arith, zero_from_ones (n / 2) (omega arith)))
    ]

-- by a number of which one bit is set the remainder is what the bits below that one tell
pub mask_of_one_bit : (number divisor : ℕ) → count_ones divisor ≡ 1 → bit_and number (divisor - 1) ≡ number % divisor
mask_of_one_bit number divisor one =
    let power = power_within divisor divisor (omega arith) one in
    rw power.1 (and_mask number power.0)
