use Rattle.std.proofs.Common.{◌≡◌, ◌<◌, ◌∙◌, ◌^◌, ◌-◌, Some, ap, arith, length, min, rules, subst, take}
use Rattle.std.proofs.lemmas.Grind.{common_steps}
use Rattle.std.proofs.lemmas.Int.Digits.{digits_more, digits_value_more}
use Rattle.std.proofs.lemmas.Str.Parse.{digit_at}
use Rattle.std.specs.Str.Parse.{AllDigits, IsNumeral, digits_value}
use Rattle.packet_core.proofs.NumeralLemmas.{a_numeral, no_numeral, saturated_step}
use Rattle.packet_core.proofs.numerals.read_numeral.Goals as goal

pub returns-then-is_empty : goal.returns-then-is_empty
returns-then-is_empty c = rw (no_numeral c.args.text.now (λ n. search (rules, n.0))) (search rules)

pub returns-in_err-digit : goal.returns-in_err-digit
returns-in_err-digit c =
    let no : ¬ (IsNumeral 10 c.args.text.now) = λ n.
    let digit = digit_at c.args.text.now c.loop-byte.byte-index n.1 c.loop-byte-test.true in
    search (rules, digit) in
    rw (no_numeral c.args.text.now no) (search rules)

pub loop-byte-preserved : goal.loop-byte-preserved
loop-byte-preserved c =
    let i = c.loop-byte.byte-index in
    let more = digits_value_more 10 c.args.text.now i c.loop-byte-test.true in
    let digits = digits_more 10 c.args.text.now i c.loop-byte-test.true c.loop-byte.invariant.digits in
    record { digits = grind (arith, common_steps, digits); value = grind (arith, common_steps, more, saturated_step) }

pub returns : goal.returns
returns c =
    let all : take c.loop-byte.byte-index c.args.text.now ≡ c.args.text.now = grind (arith, common_steps, c.loop-byte-test.false) in
    let digits : AllDigits 10 c.args.text.now = subst (λ t. AllDigits 10 t) all c.loop-byte.invariant.digits in
    let some : 0 < length c.args.text.now = search rules in
    rw (a_numeral c.args.text.now (some, digits)) (ap Some (c.loop-byte.invariant.value ∙ ap (λ t. min (digits_value 10 t) (2 ^ 64 - 1)) all))
