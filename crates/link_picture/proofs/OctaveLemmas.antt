-- The floor of a logarithm.
use Rattle.std.proofs.Common.{◌≡◌, ℕ, zero, suc, ◌*◌, ◌/◌, ◌^◌, ◌<◌, ◌≤◌, refl, sym, ap, arith}
use Rattle.std.proofs.Math.Nat.{pow-succ'}
use Rattle.std.proofs.lemmas.Bool.{lt-ltb, le-ltb}
use Rattle.std.proofs.lemmas.Nat.{pow_pos}
use Rattle.link_picture.specs.Octave.{floor_log2, octave_from, octave_of}

-- halving finds the exponent of the greatest power of two that is at most the value
floor_log2_is : (n e v : ℕ) → e < n → 2 ^ e ≤ v → v < 2 * 2 ^ e → floor_log2 n v ≡ e
unfolding floor_log2
floor_log2_is zero e v low above below = absurd (omega arith)
floor_log2_is (suc n) zero v low above below =
    let small : v < 2 = omega arith in
    rw (lt-ltb v 2 small) refl
floor_log2_is (suc n) (suc e) v low above below =
    let twice = pow-succ' 2 e in
    let some = pow_pos e in
    let large : 2 ≤ v = omega arith in
    let halved = floor_log2_is n e (v / 2) (omega arith) (omega arith) (omega arith) in
    rw (le-ltb v 2 large) (omega (arith, halved))

-- the place on the scale by the exponent
pub octave_is : (e v : ℕ) → e < 64 → 2 ^ e ≤ v → v < 2 * 2 ^ e → octave_from e v ≡ octave_of v
unfolding octave_of
octave_is e v low above below = ap (λ n. octave_from n v) (sym (floor_log2_is 64 e v low above below))
