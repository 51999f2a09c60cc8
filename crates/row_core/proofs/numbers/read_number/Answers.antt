use Rattle.std.proofs.Common.{◌≡◌, ◌<◌, ◌∙◌, ◌^◌, ◌-◌, Some, ap, arith, get_or, length, min, rules, subst, take}
use Rattle.std.specs.Char.{digit_value}
use Rattle.std.proofs.lemmas.Grind.{common_steps}
use Rattle.std.proofs.lemmas.Int.Digits.{digits_more, digits_value_more}
use Rattle.std.proofs.lemmas.Str.Parse.{digit_at}
use Rattle.std.specs.Str.Parse.{AllDigits, IsNumeral, digits_value}
use Rattle.packet_core.proofs.NumeralLemmas.{a_numeral, no_numeral}
use Rattle.row_core.proofs.NumberLemmas.{next_value, short_value}
use Rattle.row_core.proofs.numbers.read_number.Goals as goal

pub returns-in_err-digit : goal.returns-in_err-digit
returns-in_err-digit c =
    let no : ¬ (IsNumeral 10 c.args.text.now) = λ n.
    let digit = digit_at c.args.text.now c.loop-byte.byte-index n.1 c.loop-byte-test.true in
    search (rules, digit) in
    rw (no_numeral c.args.text.now no) (search rules)

pub overflow_mul-value : goal.overflow_mul-value
overflow_mul-value c =
    let i = c.loop-byte.byte-index in
    let d = c.in_ok-digit.ensures {u = tt} in
    let here : c.from.result ≡ get_or c.args.text.now i 0 = search rules in
    let digit : digit_value (get_or c.args.text.now i 0) < 10 = subst (λ b. digit_value b < 10) here d.value.0 in
    omega (arith, c.loop-byte.invariant.value, next_value c.args.text.now i c.loop-byte-test.true (omega arith) c.loop-byte.invariant.digits digit)

pub overflow_add-value : goal.overflow_add-value
overflow_add-value c =
    let i = c.loop-byte.byte-index in
    let d = c.in_ok-digit.ensures {u = tt} in
    let here : c.from.result ≡ get_or c.args.text.now i 0 = search rules in
    let digit : digit_value (get_or c.args.text.now i 0) < 10 = subst (λ b. digit_value b < 10) here d.value.0 in
    let same : c.in_ok-digit.digit ≡ digit_value (get_or c.args.text.now i 0) = d.value.1 ∙ ap digit_value here in
    omega (arith, same, c.from-in-loop-byte.ensures, c.loop-byte.invariant.value, next_value c.args.text.now i c.loop-byte-test.true (omega arith) c.loop-byte.invariant.digits digit)

pub loop-byte-preserved : goal.loop-byte-preserved
loop-byte-preserved c =
    let i = c.loop-byte.byte-index in
    let more = digits_value_more 10 c.args.text.now i c.loop-byte-test.true in
    let digits = digits_more 10 c.args.text.now i c.loop-byte-test.true c.loop-byte.invariant.digits in
    record { digits = grind (arith, common_steps, digits); value = grind (arith, common_steps, more) }

pub returns : goal.returns
returns c =
    let all : take c.loop-byte.byte-index c.args.text.now ≡ c.args.text.now = grind (arith, common_steps, c.loop-byte-test.false) in
    let digits : AllDigits 10 c.args.text.now = subst (λ t. AllDigits 10 t) all c.loop-byte.invariant.digits in
    let some : 0 < length c.args.text.now = search rules in
    let value : c.loop-byte.value ≡ digits_value 10 c.args.text.now = c.loop-byte.invariant.value ∙ ap (λ t. digits_value 10 t) all in
    let few = short_value c.args.text.now (omega arith) digits in
    let same : c.loop-byte.value ≡ min (digits_value 10 c.args.text.now) (2 ^ 64 - 1) = omega (arith, value, few) in
    rw (a_numeral c.args.text.now (some, digits)) (ap Some same)
