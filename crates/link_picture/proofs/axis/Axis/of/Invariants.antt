use Rattle.std.proofs.Common.{◌≡◌, ◌-◌, ◌<◌, max}
use Rattle.link_picture.specs.Axes.{width_after}
use Rattle.link_picture.proofs.axis.Axis.of.Given as goal

-- no width so far has few enough bins
abbrev pub invariant-loop-turn : goal.invariant-loop-turn
invariant-loop-turn l = record {
  wide : 0 < l.tens;
  width : width_after 20 (max l.fn.every 1) l.from l.upto ≡ width_after (20 - l._turn) l.tens l.from l.upto;
}
