use Rattle.std.proofs.Common.{◌≡◌, take}
use Rattle.link_picture.specs.Points.{rate_points}
use Rattle.link_picture.proofs.points.rate_points.Given as goal

-- the points so far
abbrev pub invariant-loop-place : goal.invariant-loop-place
invariant-loop-place l = l.points.items ≡ rate_points l.scale l.axis 0 (take l.place l.bins)
