use Rattle.std.proofs.Common.{◌≡◌, []}
use Rattle.link_picture.specs.Bins.{bins_from}
use Rattle.link_picture.proofs.bins.empty_bins.Given as goal

-- the bins so far
abbrev pub invariant-loop-place : goal.invariant-loop-place
invariant-loop-place l = l.bins.items ≡ bins_from l.axis.width l.axis.first l._place []
