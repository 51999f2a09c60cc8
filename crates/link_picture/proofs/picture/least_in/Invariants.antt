use Rattle.std.proofs.Common.{◌≡◌, take}
use Rattle.link_picture.specs.Extremes.{least_rate_in}
use Rattle.link_picture.proofs.picture.least_in.Given as goal

-- the least rate so far
abbrev pub invariant-loop-bin : goal.invariant-loop-bin
invariant-loop-bin l = l.least ≡ least_rate_in l.axis.width l.fn.rate (take l.bin-index l.bins)
