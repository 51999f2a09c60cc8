use Rattle.std.proofs.Common.{◌≡◌, take}
use Rattle.link_picture.specs.Extremes.{longest_in}
use Rattle.link_picture.proofs.picture.longest_in.Given as goal

-- the longest wait so far
abbrev pub invariant-loop-bin : goal.invariant-loop-bin
invariant-loop-bin l = l.longest ≡ longest_in l.fn.wait (take l.bin-index l.bins)
