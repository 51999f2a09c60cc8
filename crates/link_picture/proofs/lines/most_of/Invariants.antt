use Rattle.link_picture.proofs.ChoiceLemmas.{Choosing}
use Rattle.link_picture.proofs.lines.most_of.Given as goal

-- those chosen so far go before all others
abbrev pub invariant-loop-turn : goal.invariant-loop-turn
invariant-loop-turn l = Choosing l.fn.tuples l.packets l._turn l.counts.items l.chosen.items
