use Rattle.std.proofs.Common.{◌≡◌, length}
use Rattle.link_picture.specs.Lines.{AreNone}
use Rattle.link_picture.proofs.lines.zeros.Given as goal

-- so many zeros so far
abbrev pub invariant-loop-number : goal.invariant-loop-number
invariant-loop-number l = record {
  long : length l.zeros.items ≡ l._number;
  none : AreNone l.zeros.items;
}
