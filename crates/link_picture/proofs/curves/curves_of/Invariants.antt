use Rattle.std.proofs.Common.{◌≡◌}
use Rattle.link_picture.specs.Curves.{curves_of}
use Rattle.link_picture.proofs.curves.curves_of.Given as goal

-- the lines so far
abbrev pub invariant-loop-line : goal.invariant-loop-line
invariant-loop-line l = l.curves.items ≡ curves_of l.axis l.chosen l.line l.packets
