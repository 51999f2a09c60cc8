use Rattle.std.proofs.Common.{◌≡◌, take}
use Rattle.link_picture.specs.Extremes.{longest_of}
use Rattle.link_picture.proofs.picture.longest.Given as goal

-- the longest wait so far
abbrev pub invariant-loop-curve : goal.invariant-loop-curve
invariant-loop-curve l = l.longest ≡ longest_of l.fn.wait (take l.curve-index l.curves)
