use Rattle.std.proofs.Common.{◌∙◌, sym}
use Rattle.link_picture.proofs.PointLemmas.{share_more}
use Rattle.link_picture.proofs.points.share_points.Goals as goal

pub loop-percent-preserved : goal.loop-percent-preserved
loop-percent-preserved c =
    (c.in_ok-push.ensures {u = tt}).items ∙ rw (c.wait_x.ensures, c.share_y.ensures, c.loop-percent.invariant) (sym (share_more c.args.scale.now c.loop-percent.percent c.args.percentiles.now _ c.loop-percent-test.true))
