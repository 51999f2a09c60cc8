use Rattle.std.proofs.Common.{◌==◌, arith, below_more, sym}
use Rattle.std.proofs.lemmas.Bool.{eq-eqb, ne_eqb}
use Rattle.std.proofs.lemmas.List.Sums.{position_or_len_is}
use Rattle.link_picture.proofs.lines.line_of.Goals as goal

pub loop-line-preserved : goal.loop-line-preserved
loop-line-preserved c = below_more _ _ c.loop-line.invariant (ne_eqb _ _ c.if-number-tuple.false)

pub returns-then-number-tuple : goal.returns-then-number-tuple
returns-then-number-tuple c =
    sym (position_or_len_is (λ number. number == c.args.tuple) c.args.chosen.now c.loop-line.line 0 (omega arith) c.loop-line.invariant (λ low. eq-eqb _ _ c.if-number-tuple.true))

pub returns : goal.returns
returns c =
    sym (position_or_len_is (λ number. number == c.args.tuple) c.args.chosen.now _ 0 (omega arith) (λ k low. c.loop-line.invariant k (omega arith)) (λ low. absurd (omega arith)))
