use Rattle.std.proofs.Common.{◌≡◌, take}
use Rattle.link_picture.specs.Extremes.{rate_of_all}
use Rattle.link_picture.proofs.picture.most_of.Given as goal

-- the greatest rate so far
abbrev pub invariant-loop-curve : goal.invariant-loop-curve
invariant-loop-curve l = l.most ≡ rate_of_all l.axis.width l.fn.rate (take l.curve-index l.curves)
