use Rattle.std.proofs.Common.{inl, inr, rules}
use Rattle.sched_core.specs.FlowNumbers.{Remembers}
use Rattle.sched_core.proofs.flow_numbers.Place.recall.Goals as goal

pub returns-then-is_same-clause-remembered : goal.returns-then-is_same-clause-remembered
unfolding Remembers
returns-then-is_same-clause-remembered c = inl (search rules)

pub returns-then-is_same-2-clause-remembered : goal.returns-then-is_same-2-clause-remembered
unfolding Remembers
returns-then-is_same-2-clause-remembered c = inr (search rules)

pub returns-clause-remembered : goal.returns-clause-remembered
unfolding Remembers
returns-clause-remembered c = inl c.remember.ensures.tuple

pub returns-clause-looked_at : goal.returns-clause-looked_at
unfolding Remembers
returns-clause-looked_at c (inl later) = absurd (search rules)
returns-clause-looked_at c (inr earlier) = absurd (search rules)
