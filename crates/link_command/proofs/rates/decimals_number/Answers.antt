use Rattle.std.proofs.Common.{◌∙◌, ◌<◌, ◌^◌, ℕ, Option, length, refl, subst, sym}
use Rattle.std.specs.Prelude.{IfSome}
use Rattle.packet_core.specs.Numerals.{numeral_of}
use Rattle.link_command.proofs.RateLemmas.{nine_small, nine_whole}
use Rattle.link_command.proofs.rates.decimals_number.Goals as goal

pub returns-clause-value : goal.returns-clause-value
returns-clause-value c = c.read_numeral.ensures ∙ nine_whole c.args.decimals.now (numeral_of c.args.decimals.now) c.requires refl

pub returns-clause-bound : goal.returns-clause-bound
returns-clause-bound c =
    let value = c.read_numeral.ensures ∙ nine_whole c.args.decimals.now (numeral_of c.args.decimals.now) c.requires refl in
    subst (λ (o : Option ℕ). IfSome o (λ n. n < 10 ^ (length c.args.decimals.now))) (sym value) (nine_small c.args.decimals.now (numeral_of c.args.decimals.now) refl)
