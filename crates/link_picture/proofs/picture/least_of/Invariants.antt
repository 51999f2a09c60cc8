use Rattle.std.proofs.Common.{◌≡◌, take}
use Rattle.link_picture.specs.Extremes.{least_rate_of_all}
use Rattle.link_picture.proofs.picture.least_of.Given as goal

-- the least rate so far
abbrev pub invariant-loop-curve : goal.invariant-loop-curve
invariant-loop-curve l = l.least ≡ least_rate_of_all l.axis.width l.fn.rate (take l.curve-index l.curves)
