-- Rates with a point.
use Rattle.std.proofs.Common.{◌≡◌, ◌∙◌, ◌+◌, ◌-◌, ◌*◌, ◌/◌, ◌<◌, ◌≤◌, ◌^◌, ℕ, List, Option, Some, None, length, min, option_map, refl, sym, ap, arith}
use Rattle.std.specs.Prelude.{IfSome}
use Rattle.std.proofs.Math.Nat.{add-mul, mul-add-div_right, mul_right_comm, one-le-pow}
use Rattle.packet_core.specs.Numerals.{numeral_of}
use Rattle.packet_core.specs.Words.{product_of}
use Rattle.link_command.specs.Rates.{rounded_product}
use Rattle.link_command.proofs.CountLemmas.{capped, few_digits}

-- THE DIGITS AFTER A POINT

-- their number isn't cut off
pub nine_whole : (text : List ℕ) (o : Option ℕ) → length text ≤ 9 → numeral_of text ≡ o → capped o ≡ o
nine_whole text None few e = refl
nine_whole text (Some n) few e = let small : n < 1000000000 = few_digits text n 9 few e in ap Some (omega (arith, small))

-- it is less than a whole
pub nine_small : (text : List ℕ) (o : Option ℕ) → numeral_of text ≡ o → IfSome o (λ n. n < 10 ^ (length text))
nine_small text None e = tt
nine_small text (Some n) e = few_digits text n (length text) (omega arith) e

-- THE PRODUCT

-- a decimal fraction is counted apart from the whole units
apart : (whole decimals digits unit : ℕ) → (whole * 10 ^ digits + decimals) * unit / 10 ^ digits ≡ whole * unit + decimals * unit / 10 ^ digits
apart whole decimals digits unit =
    ap (λ n. n / 10 ^ digits) (add-mul (whole * 10 ^ digits) decimals unit ∙ ap (λ n. n + decimals * unit) (mul_right_comm whole (10 ^ digits) unit))
    ∙ mul-add-div_right {m = 10 ^ digits} (one-le-pow digits 10 (omega arith)) (whole * unit) (decimals * unit)

-- a sum of parts that are cut off
cut_sum : (all count part most : ℕ) → min all most ≡ count → min (count + part) most ≡ min (all + part) most
cut_sum all count part most is = omega arith

-- the units that are cut off, and a fraction, give the product that is cut off
pub product_in_parts : (whole decimals : Option ℕ) (digits unit count part : ℕ) → capped (product_of whole (Some unit)) ≡ Some count
    → option_map (λ n. n * unit / 10 ^ digits) decimals ≡ Some part
    → Some (min (count + part) (2 ^ 64 - 1)) ≡ capped (rounded_product whole decimals digits (Some unit))
product_in_parts None decimals digits unit count part is fraction = absurd cc
product_in_parts (Some whole) None digits unit count part is fraction = absurd cc
product_in_parts (Some whole) (Some decimals) digits unit count part is fraction =
    let most : min (whole * unit) (2 ^ 64 - 1) ≡ count = cc in
    let rest : decimals * unit / 10 ^ digits ≡ part = cc in
    ap Some (cut_sum (whole * unit) count part (2 ^ 64 - 1) most ∙ ap (λ n. min n (2 ^ 64 - 1)) (ap (λ n. whole * unit + n) (sym rest) ∙ sym (apart whole decimals digits unit)))
