use Rattle.std.proofs.Common.{◌≡◌, take}
use Rattle.link_picture.specs.Points.{wait_points}
use Rattle.link_picture.proofs.points.wait_points.Given as goal

-- the points so far
abbrev pub invariant-loop-place : goal.invariant-loop-place
invariant-loop-place l = l.points.items ≡ wait_points l.scale l.axis.count 0 (take l.place l.bins)
