use Rattle.std.proofs.Common.{◌≡◌, ◌∙◌, ◌++◌, ◌∷◌, [], ap, arith}
use Rattle.link_picture.specs.Bins.{bins_from}
use Rattle.link_picture.proofs.BinLemmas.{bins_none}
use Rattle.link_picture.proofs.bins.empty_bins.Goals as goal

pub loop-place-init : goal.loop-place-init
unfolding bins_from
loop-place-init c = c.new-bins.ensures.items

pub loop-place-preserved : goal.loop-place-preserved
loop-place-preserved c =
    let axis = c.args.axis.now in
    (c.in_ok-push.ensures {u = tt}).items ∙ (λ k. c.loop-place.invariant k ++ c.empty.ensures k ∷ []) ∙ bins_none axis.width axis.first c.loop-place._place

pub returns : goal.returns
returns c =
    let axis = c.args.axis.now in
    let all : c.loop-place._place ≡ axis.count = omega arith in
    c.loop-place.invariant ∙ ap (λ n. bins_from axis.width axis.first n []) all
