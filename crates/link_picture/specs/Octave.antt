-- Logarithmic scales: 1,024 steps from each power of two to the next.
use Rattle.std.specs.Prelude.{◌≡◌, ℕ, zero, suc, ◌+◌, ◌-◌, ◌*◌, ◌/◌, ◌^◌, nat_lt, if◌then◌else◌}

-- The floor of the logarithm to base 2 of a value below 2 ^ n, and 0 of 0: how often it can be halved before it is
-- below 2.
unfoldable pub floor_log2 : ℕ → ℕ → ℕ
floor_log2 zero v = 0
floor_log2 (suc n) v = if nat_lt v 2 then 0 else (floor_log2 n (v / 2) + 1)

-- the place of a value on the scale, where e is the floor of its logarithm to base 2
abbrev pub octave_from : ℕ → ℕ → ℕ
octave_from e v = 1024 * e + (v - 2 ^ e) * 1024 / 2 ^ e

-- the place of a value of 64 bits
unfoldable pub octave_of : ℕ → ℕ
octave_of v = octave_from (floor_log2 64 v) v

abbrev pub IsPowerOfTen : ℕ → Type 0
IsPowerOfTen n = (k : ℕ) × (n ≡ 10 ^ k)
