-- Facts on numbers from hashes.
use Rattle.std.proofs.Common.{◌≡◌, ◌<◌, ◌≤◌, ℕ, ◌+◌, ◌-◌, ◌*◌, ◌/◌, ◌∙◌, sym, ap, inl, inr, arith}
use Rattle.std.specs.Prelude.{◌↔◌}
use Rattle.std.proofs.Math.Nat.{add-mul, div-lt_iff_lt-mul, div-mul-le_self, le-div_iff_mul-le, lt-div-mul-add, lt_of_mul-lt-mul_right, mul_comm}
use Rattle.std.proofs.lemmas.Bool.{cases_lt}
use Rattle.std.proofs.lemmas.Nat.{div-mul-add}
use Rattle.packet_core.specs.HashShares.{HasShare, first_hash, scaled_hash}

-- a hash gets this number or a greater one exactly from the first of them on
reached : (values value hash : ℕ) → 0 < values → first_hash values value ≤ hash → value * 4294967296 ≤ hash * values
reached values value hash some first =
    let next = add-mul hash 1 values in
    let below = (div-lt_iff_lt-mul {k = values} {x = value * 4294967296 + (values - 1)} {y = hash + 1} some).0 (omega arith) in
    omega arith

reaches : (values value hash : ℕ) → 0 < values → value * 4294967296 ≤ hash * values → first_hash values value ≤ hash
reaches values value hash some enough =
    let next = add-mul hash 1 values in
    let below = (div-lt_iff_lt-mul {k = values} {x = value * 4294967296 + (values - 1)} {y = hash + 1} some).1 (omega arith) in
    omega arith

-- the hashes of a number
hashes_of : (values value hash : ℕ) → 0 < values
    → (scaled_hash hash values ≡ value) ↔ ((first_hash values value ≤ hash) × (hash < first_hash values (value + 1)))
hashes_of values value hash some = (
  λ is.
      let first = reaches values value hash some (omega arith) in (
        first,
        elim (cases_lt hash (first_hash values (value + 1))) [
          | inl below ↦ below
          | inr reach ↦ let more = reached values (value + 1) hash some reach in absurd (omega arith)
        ],
      ),
  λ both.
      let enough = reached values value hash some both.0 in
      elim (cases_lt (hash * values) ((value + 1) * 4294967296)) [
        | inl below ↦ omega arith
        | inr reach ↦ let first = reaches values (value + 1) hash some reach in absurd (omega arith)
      ],
)

-- the share of a number
pub has_share : (values value : ℕ) → 0 < values → values < 4294967296 → HasShare values value
has_share values value some few =
    let low = value * 4294967296 + (values - 1) in
    let high = (value + 1) * 4294967296 + (values - 1) in
    let first = low / values in
    let next = high / values in
    let first_most : first * values ≤ low = div-mul-le_self low values in
    let first_least : low < first * values + values = lt-div-mul-add some in
    let next_most : next * values ≤ high = div-mul-le_self high values in
    let next_least : high < next * values + values = lt-div-mul-add some in
    let rises : first < next = lt_of_mul-lt-mul_right values (omega arith) in
    let size = next - first in
    let parts : (first + size) * values ≡ first * values + size * values = add-mul first size values in
    let whole : first + size ≡ next = omega arith in
    let together : next * values ≡ first * values + size * values = ap (λ n. n * values) (sym whole) ∙ parts in
    let one_more : (size + 1) * values ≡ size * values + 1 * values = add-mul size 1 values in
    record {
      hashes = λ hash. hashes_of values value hash some;
      least = let below : 4294967296 / values < size + 1 = (div-lt_iff_lt-mul some).1 (omega arith) in omega arith;
      most = (le-div_iff_mul-le some).1 (omega arith);
      ends = ap (λ n. (n + (values - 1)) / values) (mul_comm values 4294967296) ∙ div-mul-add 4294967296 values (values - 1) (omega arith);
    }
