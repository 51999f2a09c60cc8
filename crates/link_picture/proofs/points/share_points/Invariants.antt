use Rattle.std.proofs.Common.{◌≡◌, take}
use Rattle.link_picture.specs.Points.{share_points}
use Rattle.link_picture.proofs.points.share_points.Given as goal

-- the points so far
abbrev pub invariant-loop-percent : goal.invariant-loop-percent
invariant-loop-percent l = l.points.items ≡ share_points l.scale 0 (take l.percent l.percentiles)
