use Rattle.link_picture.proofs.ChoiceLemmas.{MostSoFar}
use Rattle.link_picture.proofs.lines.place_of_most.Given as goal

-- the greatest number so far
abbrev pub invariant-loop-place : goal.invariant-loop-place
invariant-loop-place l = MostSoFar l.counts l.place l.most l.found
