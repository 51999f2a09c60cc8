use Rattle.std.proofs.Common.{◌≡◌, ◌∙◌, ◌*◌, ◌/◌, ◌^◌, Some, ap, length, option_map, sym}
use Rattle.packet_core.specs.Numerals.{numeral_of}
use Rattle.packet_core.specs.Words.{product_of}
use Rattle.link_command.specs.Rates.{decimals_of, rounded_product}
use Rattle.link_command.proofs.CountLemmas.{capped}
use Rattle.link_command.proofs.RateLemmas.{product_in_parts}
use Rattle.link_command.proofs.rates.point_rate.Goals as goal

pub returns : goal.returns
returns c =
    let whole = numeral_of c.args.whole.now in
    let decimals = decimals_of c.args.decimals.now in
    let digits = length c.args.decimals.now in
    let unit = c.in_ok-unit.unit in
    let given : c.args.unit ≡ Some unit = c.in_ok-unit.was in
    let count : capped (product_of whole (Some unit)) ≡ Some c.in_ok-scaled.field-0 = sym c.scaled.ensures ∙ c.in_ok-scaled.was in
    let fraction : option_map (λ n. n * unit / 10 ^ digits) decimals ≡ Some c.in_ok-part.part = sym c.part_of_unit.ensures ∙ c.in_ok-part.was in
    ap Some c.saturating_add.ensures ∙ product_in_parts whole decimals digits unit c.in_ok-scaled.field-0 c.in_ok-part.part count fraction
    ∙ ap (λ u. capped (rounded_product whole decimals digits u)) (sym given)
