-- Facts on decimal numbers.
use Rattle.std.proofs.Common.{◌≡◌, ℕ, ◌+◌, ◌*◌, min, true, List, Some, None, length, inl, inr, refl, arith}
use Rattle.std.specs.Bool.{Decides}
use Rattle.std.specs.Str.{all_ascii_digits}
use Rattle.std.specs.Str.Parse.{IsNumeral, digits_value}
use Rattle.std.proofs.lemmas.Bool.{cases_Bool}
use Rattle.std.proofs.lemmas.Bool.Decides.{Decides-and, Decides-ltb}
use Rattle.std.proofs.lemmas.Str.Parse.{numerals_by_value, tells_all_ascii_digits}
use Rattle.packet_core.specs.Numerals.{is_numeral, numeral_of}

numeral-tells : (text : List ℕ) → Decides (is_numeral text) (IsNumeral 10 text)
numeral-tells text =
    let digits = numerals_by_value (λ ds. all_ascii_digits ds ≡ true) tells_all_ascii_digits in
    Decides-and _ _ (Decides-ltb 0 (length text)) (digits.to text, digits.from text)

-- a text of digits writes its value
pub a_numeral : (text : List ℕ) → IsNumeral 10 text → numeral_of text ≡ Some (digits_value 10 text)
unfolding numeral_of
a_numeral text h = rw ((numeral-tells text).1 h) refl

-- another text writes none
pub no_numeral : (text : List ℕ) → ¬ (IsNumeral 10 text) → numeral_of text ≡ None
unfolding numeral_of
no_numeral text h = elim (cases_Bool (is_numeral text)) [ inl e ↦ absurd (h ((numeral-tells text).0 e)) | inr e ↦ rw e refl ]

-- a digit more, where the value and each step towards it are cut off at a limit
pub saturated_step : (value digit limit : ℕ) → min (min (min value limit * 10) limit + digit) limit ≡ min (value * 10 + digit) limit
saturated_step value digit limit = omega arith
