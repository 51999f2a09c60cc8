use Rattle.std.proofs.Common.{◌≡◌, ◌<◌, ℕ, eqb, false, get_or}
use Rattle.link_picture.proofs.lines.line_of.Given as goal

-- none of those so far is the five-tuple
abbrev pub invariant-loop-line : goal.invariant-loop-line
invariant-loop-line l = (k : ℕ) → k < l.line → eqb (get_or l.chosen k 0) l.tuple ≡ false
