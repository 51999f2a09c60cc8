-- The values of short texts of digits.
use Rattle.std.proofs.Common.{ℕ, ◌+◌, ◌*◌, ◌^◌, ◌<◌, ◌≤◌, List, length, take, get_or, length-take, arith}
use Rattle.std.specs.Char.{digit_value}
use Rattle.std.specs.Str.Parse.{AllDigits, digits_value}
use Rattle.std.proofs.Math.Nat.{pow-le-pow_right}
use Rattle.std.proofs.lemmas.Int.Digits.{digits_value-lt, digits_value_more, digits_more}

-- nineteen digits write a number below 2^64
pub short_value : (text : List ℕ) → length text ≤ 19 → AllDigits 10 text → digits_value 10 text < 2 ^ 64
short_value text short digits =
    let below = digits_value-lt 10 text digits in
    let most : 10 ^ length text ≤ 10 ^ 19 = pow-le-pow_right (omega arith) short in
    omega (arith, below, most)

-- and so does the value with the next digit
pub next_value : (text : List ℕ) (i : ℕ) → i < length text → length text ≤ 19 → AllDigits 10 (take i text) → digit_value (get_or text i 0) < 10 → digits_value 10 (take i text) * 10 + digit_value (get_or text i 0) < 2 ^ 64
next_value text i within short digits digit =
    let more = digits_value_more 10 text i within in
    let all = digits_more 10 text i within digits digit in
    rw (← more) (short_value (take (i + 1) text) (omega (arith, length-take (i + 1) text)) all)
