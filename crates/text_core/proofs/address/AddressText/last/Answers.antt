use Rattle.std.proofs.Common.{◌≡◌, ◌+◌, ◌≤◌, ◌∙◌, ap, arith, drop, length, length-append}
use Rattle.std.specs.Fmt.{decimal}
use Rattle.std.proofs.lemmas.Fmt.{length-decimal-le}
use Rattle.text_core.proofs.address.AddressText.last.Goals.{After-from}
use Rattle.text_core.proofs.address.AddressText.last.Goals as goal

-- a number below 256 has three digits at most
few_digits : (c : After-from) → length (decimal c.from.result) ≤ 3
few_digits c = length-decimal-le 3 c.from.result (omega arith) (omega (arith, c.from.ensures, c.ranges.number.fits)) (omega (arith, c.from.ensures, c.ranges.number.fits))

pub write_digits-start-requires : goal.write_digits-start-requires
write_digits-start-requires c = (omega (arith, few_digits (goal.at.write_digits-start-requires c).After-from), omega arith)

pub returns-clause-few : goal.returns-clause-few
returns-clause-few c =
    let size : length (drop c.write_digits-start.result c.write_digits-start.new.buf) ≡ length (decimal c.from.result) + 0 = ap length c.write_digits-start.ensures.written ∙ length-append (decimal c.from.result) _ in
    omega (arith, size, few_digits (goal.at.returns-clause-few c).After-from)
