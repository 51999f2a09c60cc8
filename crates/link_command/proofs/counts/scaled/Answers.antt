use Rattle.std.proofs.Common.{◌≡◌, ◌∙◌, Some, ap}
use Rattle.packet_core.specs.Numerals.{numeral_of}
use Rattle.link_command.proofs.CountLemmas.{capped, product_capped}
use Rattle.link_command.proofs.counts.scaled.Goals as goal

pub returns-in-Some-Some : goal.returns-in-Some-Some
returns-in-Some-Some c =
    let number = numeral_of c.args.digits.now in
    let count : capped number ≡ Some c.in-Some-Some.count = cc c.read_numeral.ensures in
    let unit : c.args.unit ≡ Some c.in-Some-Some.unit = cc in
    let product = product_capped number (Some c.in-Some-Some.unit) in
    rw unit (ap Some c.saturating_mul.ensures ∙ (rw count at product))
