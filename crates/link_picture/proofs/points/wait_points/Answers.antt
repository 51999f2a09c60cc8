use Rattle.std.proofs.Common.{◌∙◌, sym}
use Rattle.link_picture.proofs.PointLemmas.{wait_more}
use Rattle.link_picture.proofs.points.wait_points.Goals as goal

pub loop-place-preserved : goal.loop-place-preserved
loop-place-preserved c =
    (c.in_ok-push.ensures {u = tt}).items ∙ rw (c.wait_point.ensures, c.loop-place.invariant) (sym (wait_more c.args.scale.now c.args.axis.now.count c.loop-place.place c.args.bins.now _ c.loop-place-test.true))
