use Rattle.std.proofs.Common.{◌∙◌, arith, sym}
use Rattle.std.proofs.lemmas.List.Sums.{position_or_len_is}
use Rattle.link_command.specs.Marks.{is_in_vain}
use Rattle.link_command.specs.declared.marks.TheConstants.{NONE_SENT}
use Rattle.link_command.proofs.marks.first_in_vain.Goals as goal

pub returns-then-are_in_vain : goal.returns-then-are_in_vain
returns-then-are_in_vain c =
    sym (position_or_len_is is_in_vain c.args.counts.now c.loop-place.place NONE_SENT (omega arith) c.loop-place.invariant (λ low. sym c.are_in_vain.ensures ∙ c.if-are_in_vain.true))

pub returns : goal.returns
returns c =
    sym (position_or_len_is is_in_vain c.args.counts.now _ NONE_SENT (omega arith) (λ k low. c.loop-place.invariant k (omega arith)) (λ low. absurd (omega arith)))
