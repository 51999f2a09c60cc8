use Rattle.std.proofs.Common.{◌∙◌, sym}
use Rattle.link_picture.proofs.PointLemmas.{rate_more}
use Rattle.link_picture.proofs.points.rate_points.Goals as goal

pub loop-place-preserved : goal.loop-place-preserved
loop-place-preserved c =
    (c.in_ok-push.ensures {u = tt}).items ∙ rw (c.bin_x.ensures.value, c.rate_y.ensures, c.rate_of.ensures, c.loop-place.invariant) (sym (rate_more c.args.scale.now c.args.axis.now c.loop-place.place c.args.bins.now _ c.loop-place-test.true))
