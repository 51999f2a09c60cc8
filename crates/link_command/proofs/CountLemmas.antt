-- Numbers with a unit: the digits in front of a text, and values that are cut off.
use Rattle.std.proofs.Common.{◌≡◌, ◌∙◌, ◌+◌, ◌-◌, ◌*◌, ◌<◌, ◌≤◌, ◌^◌, ◌&&◌, ℕ, zero, suc, Bool, true, false, List, [], ◌∷◌, Option, Some, None, length, get_or, min, option_map, refl, sym, subst, ap, arith, inl, inr, if◌then◌else◌}
use Rattle.std.specs.Char.{is_ascii_digit}
use Rattle.std.specs.List.{prefix_len}
use Rattle.std.specs.Prelude.{IfSome, nat_lt}
use Rattle.std.specs.Str.{all_ascii_digits}
use Rattle.std.specs.Str.Parse.{digits_value}
use Rattle.std.specs.Str.{IsCharBoundary, IsUtf8}
use Rattle.std.proofs.lemmas.Bool.{cases_Bool, cases_lt}
use Rattle.std.proofs.lemmas.Grind.{common_steps}
use Rattle.std.proofs.lemmas.List.Folds.{length-prefix_len}
use Rattle.std.proofs.lemmas.Str.{IsCharBoundary-after_ascii, IsCharBoundary-start}
use Rattle.std.proofs.lemmas.Str.Parse.{digits_value_short, numerals_by_value, tells_all_ascii_digits}
use Rattle.packet_core.specs.Numerals.{is_numeral, numeral_of}
use Rattle.packet_core.specs.Words.{digits_in_front, product_of}

abbrev pub capped : Option ℕ → Option ℕ
capped o = option_map (λ n. min n (2 ^ 64 - 1)) o

-- WHAT STANDS IN FRONT

step_in_front : (p : ℕ → Bool) (x : ℕ) (xs : List ℕ) (i : ℕ) → p x ≡ true → ((j : ℕ) → j < prefix_len p xs → p (get_or xs j 0) ≡ true)
    → i < 1 + prefix_len p xs → p (get_or (x ∷ xs) i 0) ≡ true
step_in_front p x xs zero holds rest h = holds
step_in_front p x xs (suc i) holds rest h = rest i (omega arith)

-- each of those passes
passes_in_front : (p : ℕ → Bool) (xs : List ℕ) (i : ℕ) → i < prefix_len p xs → p (get_or xs i 0) ≡ true
passes_in_front p [] i h = absurd (omega arith)
passes_in_front p (x ∷ xs) i h = elim (cases_Bool (p x)) [
  | inl holds ↦ step_in_front p x xs i holds (passes_in_front p xs) (rw holds at h)
  | inr fails ↦ absurd (let none : i < 0 = rw fails at h in omega arith)
]

few_in_front : (p : ℕ → Bool) (xs : List ℕ) → prefix_len p xs ≤ length xs
few_in_front p [] = omega arith
few_in_front p (x ∷ xs) = elim (cases_Bool (p x)) [
  | inl holds ↦ rw holds (omega (arith, few_in_front p xs))
  | inr fails ↦ rw fails (omega arith)
]

digit_small : (c : ℕ) → is_ascii_digit c ≡ true → c < 128
digit_small c h = grind (arith, common_steps, h)

char_ends : (text : List ℕ) (d : ℕ) → IsUtf8 text → prefix_len is_ascii_digit text ≡ d → IsCharBoundary text d
char_ends text zero valid e = IsCharBoundary-start text valid
char_ends text (suc i) valid e =
    let digit = passes_in_front is_ascii_digit text i (omega (arith, e)) in
    let within : i < length text = omega (arith, few_in_front is_ascii_digit text, e) in
    let next : i + 1 ≡ suc i = omega arith in
    subst (IsCharBoundary text) next (IsCharBoundary-after_ascii text i valid within (digit_small (get_or text i 0) digit))

-- the digits in front of a text end where a character does
pub digits_end : (text : List ℕ) (d : ℕ) → IsUtf8 text → d ≡ digits_in_front text → IsCharBoundary text d
digits_end text d valid is =
    subst (IsCharBoundary text) (sym (is ∙ length-prefix_len is_ascii_digit text)) (char_ends text (prefix_len is_ascii_digit text) valid refl)

-- VALUES THAT ARE CUT OFF

big_product : (n u : ℕ) → 2 ^ 64 - 1 ≤ n → min ((2 ^ 64 - 1) * u) (2 ^ 64 - 1) ≡ min (n * u) (2 ^ 64 - 1)
big_product n zero h = omega arith
big_product n (suc u) h = omega arith

number_product : (n u : ℕ) → min (min n (2 ^ 64 - 1) * u) (2 ^ 64 - 1) ≡ min (n * u) (2 ^ 64 - 1)
number_product n u = elim (cases_lt n (2 ^ 64 - 1)) [
  | inl small ↦ let same : min n (2 ^ 64 - 1) ≡ n = omega arith in rw same refl
  | inr big ↦ let same : min n (2 ^ 64 - 1) ≡ 2 ^ 64 - 1 = omega arith in rw same (big_product n u big)
]

-- a count that is cut off gives a product that is cut off
pub product_capped : (count unit : Option ℕ) → capped (product_of (capped count) unit) ≡ capped (product_of count unit)
product_capped None unit = refl
product_capped (Some n) None = refl
product_capped (Some n) (Some u) = ap Some (number_product n u)

-- A FEW DIGITS

and_right : (a b : Bool) → (a && b) ≡ true → b ≡ true
and_right true b h = h
and_right false b h = cc

told_value : (b : Bool) (v n : ℕ) → (if b then Some v else None) ≡ Some n → v ≡ n
told_value true v n h = cc
told_value false v n h = cc

told_test : (b : Bool) (v n : ℕ) → (if b then Some v else None) ≡ Some n → b ≡ true
told_test true v n h = refl
told_test false v n h = cc

-- so many digits are less than that power of ten
pub few_digits : (text : List ℕ) (n most : ℕ) → length text ≤ most → numeral_of text ≡ Some n → n < 10 ^ most
unfolding numeral_of
few_digits text n most few h =
    let value : digits_value 10 text ≡ n = told_value (is_numeral text) (digits_value 10 text) n h in
    let test : is_numeral text ≡ true = told_test (is_numeral text) (digits_value 10 text) n h in
    let digits : all_ascii_digits text ≡ true = and_right (nat_lt 0 (length text)) (all_ascii_digits text) test in
    let small : digits_value 10 text < 10 ^ most = digits_value_short (numerals_by_value (λ ds. all_ascii_digits ds ≡ true) tells_all_ascii_digits) text most digits few in
    rw value at small

-- their number isn't cut off
pub decimals_whole : (text : List ℕ) (o : Option ℕ) → length text ≤ 6 → numeral_of text ≡ o → capped o ≡ o
decimals_whole text None few e = refl
decimals_whole text (Some n) few e = let small : n < 1000000 = few_digits text n 6 few e in ap Some (omega (arith, small))

pub decimals_small : (text : List ℕ) (o : Option ℕ) → length text ≤ 6 → numeral_of text ≡ o → IfSome o (λ n. n < 1000000)
decimals_small text None few e = tt
decimals_small text (Some n) few e = few_digits text n 6 few e
