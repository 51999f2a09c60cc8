use Rattle.std.proofs.Common.{refl, subst, sym, Option, ℕ, ◌∙◌, ◌<◌}
use Rattle.std.specs.Prelude.{IfSome}
use Rattle.packet_core.specs.Numerals.{numeral_of}
use Rattle.link_command.proofs.CountLemmas.{decimals_small, decimals_whole}
use Rattle.link_command.proofs.plain.decimals_number.Goals as goal

pub returns-clause-value : goal.returns-clause-value
returns-clause-value c = c.read_numeral.ensures ∙ decimals_whole c.args.decimals.now (numeral_of c.args.decimals.now) c.requires refl

pub returns-clause-bound : goal.returns-clause-bound
returns-clause-bound c =
    let value = c.read_numeral.ensures ∙ decimals_whole c.args.decimals.now (numeral_of c.args.decimals.now) c.requires refl in
    subst (λ (o : Option ℕ). IfSome o (λ n. n < 1000000)) (sym value) (decimals_small c.args.decimals.now (numeral_of c.args.decimals.now) c.requires refl)
