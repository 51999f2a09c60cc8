-- A time is the product of its count and its unit, also where the count is cut off at 2^64 - 1.
use Rattle.std.proofs.Common.{◌≡◌, ◌-◌, ◌^◌, ◌∙◌, min, option_map, ℕ, List, Bool, true, false, Option, Some, None, length, take, drop, refl, ap, arith, if◌then◌else◌}
use Rattle.std.proofs.lemmas.Slice.{between_to_end}
use Rattle.packet_core.specs.Numerals.{numeral_of}
use Rattle.packet_core.specs.Words.{digits_in_front, is_microseconds, is_milliseconds, is_seconds, product_of, time_of, unit_of}
use Rattle.packet_core.proofs.words.time.Goals as goal

abbrev capped : Option ℕ → Option ℕ
capped o = option_map (λ n. min n (2 ^ 64 - 1)) o

abbrev unit_by : Bool → Bool → Bool → Option ℕ
unit_by a b d = if a then Some 1 else if b then Some 1000 else if d then Some 1000000 else None

-- a count that is cut off gives a product that is cut off, at each unit
product_capped : (count : Option ℕ) (a b d : Bool) → capped (product_of (capped count) (unit_by a b d)) ≡ capped (product_of count (unit_by a b d))
product_capped None a b d = refl
product_capped (Some n) true b d = ap Some (omega arith)
product_capped (Some n) false true d = ap Some (omega arith)
product_capped (Some n) false false true = ap Some (omega arith)
product_capped (Some n) false false false = refl

-- the time that the code's count and unit say
time_is : (text rest : List ℕ) (d : ℕ) (count unit : Option ℕ) → d ≡ digits_in_front text → rest ≡ drop d text → count ≡ capped (numeral_of (take d text)) → unit ≡ unit_of rest
    → capped (product_of count unit) ≡ capped (time_of text)
unfolding time_of
time_is text rest d count unit front behind is told =
    rw (is, told, behind, front) (product_capped (numeral_of (take (digits_in_front text) text)) (is_microseconds (drop (digits_in_front text) text)) (is_milliseconds (drop (digits_in_front text) text)) (is_seconds (drop (digits_in_front text) text)))

pub returns-in_err-count : goal.returns-in_err-count
returns-in_err-count c =
    c.from_residual.ensures
    ∙ time_is c.args.text.now (drop c.digits_in_front-digits.result c.args.text.now) c.digits_in_front-digits.result None (unit_of (drop c.digits_in_front-digits.result c.args.text.now)) c.digits_in_front-digits.ensures refl c.in_err-count.ensures refl

pub returns-in_err-unit : goal.returns-in_err-unit
returns-in_err-unit c =
    let text = c.args.text.now in
    let behind = between_to_end text c.digits_in_front-digits.result (length text) (omega arith) in
    c.from_residual-in_err-unit.ensures ∙ time_is text _ c.digits_in_front-digits.result (Some c.in_ok-count.count) None c.digits_in_front-digits.ensures behind c.in_ok-count.ensures c.in_err-unit.ensures

pub returns : goal.returns
returns c =
    let text = c.args.text.now in
    let behind = between_to_end text c.digits_in_front-digits.result (length text) (omega arith) in
    ap Some c.saturating_mul.ensures ∙ time_is text _ c.digits_in_front-digits.result (Some c.in_ok-count.count) (Some c.in_ok-unit.field-0) c.digits_in_front-digits.ensures behind c.in_ok-count.ensures c.in_ok-unit.ensures
