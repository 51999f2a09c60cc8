use Rattle.std.proofs.Common.{◌≡◌, take}
use Rattle.link_picture.specs.Extremes.{rate_in}
use Rattle.link_picture.proofs.picture.most_in.Given as goal

-- the greatest rate so far
abbrev pub invariant-loop-bin : goal.invariant-loop-bin
invariant-loop-bin l = l.most ≡ rate_in l.axis.width l.fn.rate (take l.bin-index l.bins)
