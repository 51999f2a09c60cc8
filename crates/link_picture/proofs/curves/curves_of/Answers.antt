use Rattle.std.proofs.Common.{◌∙◌, ◌++◌, ◌∷◌, [], ap, sym, arith}
use Rattle.std.proofs.lemmas.List.FromFn.{map-range_with_len_more}
use Rattle.link_picture.specs.Curves.{curve_of}
use Rattle.link_picture.specs.Lines.{packets_on}
use Rattle.link_picture.proofs.LineLemmas.{few_on}
use Rattle.link_picture.proofs.curves.curves_of.Goals as goal

pub of-requires : goal.of-requires
of-requires c =
    rw (c.deref.ensures.value, c.in_ok-own.ensures {u = tt}) (omega (arith, few_on c.args.chosen.now c.loop-line.line c.args.packets.now))

pub loop-line-preserved : goal.loop-line-preserved
loop-line-preserved c =
    let axis = c.args.axis.now in
    let own = c.deref.ensures.value ∙ c.in_ok-own.ensures {u = tt} in
    let curve = c.in_ok-curve.ensures {u = tt} ∙ ap (curve_of axis) own in
    (c.in_ok-push.ensures {u = tt}).items ∙ (λ k. c.loop-line.invariant k ++ curve k ∷ [])
    ∙ sym (map-range_with_len_more (λ line. curve_of axis (packets_on c.args.chosen.now line c.args.packets.now)) 0 c.loop-line.line c.loop-line.line (omega arith))
