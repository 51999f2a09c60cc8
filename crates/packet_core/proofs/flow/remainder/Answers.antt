use Rattle.std.proofs.Common.{◌∙◌, ◌%◌, ap, sym}
use Rattle.std.proofs.lemmas.Bool.{eqb-true}
use Rattle.packet_core.proofs.PowerLemmas.{mask_of_one_bit}
use Rattle.packet_core.proofs.flow.remainder.Goals as goal
use Rattle.packet_core.proofs.flow.remainder.Goals.{then-is_power_of_two, else-is_power_of_two}

pub returns : goal.returns
returns c =
    let same = ap (λ d. c.args.number % d) c.from-divisor.ensures in
    elim c.if-is_power_of_two.branch [
      | then-is_power_of_two w ↦
          let one = eqb-true _ 1 (sym c.is_power_of_two.ensures ∙ w.if-is_power_of_two.true) in
          w.rest-is ∙ mask_of_one_bit c.args.number c.from-divisor.result one ∙ same
      | else-is_power_of_two w ↦ w.rest-is ∙ same
    ]
