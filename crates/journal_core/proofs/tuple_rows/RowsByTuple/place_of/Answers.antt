-- A five-tuple that stands somewhere is among those that are known.
use Rattle.std.proofs.Common.{refl, rules}
use Rattle.journal_core.proofs.TallyLemmas.{stands_among}
use Rattle.journal_core.proofs.tuple_rows.RowsByTuple.place_of.Goals as goal

pub returns-then-stands_at-clause-tuples : goal.returns-then-stands_at-clause-tuples
returns-then-stands_at-clause-tuples c = rw (stands_among _ _ _ (c.if-stands_at.ensures.0 (search rules))) refl

pub returns-then-stands_at-clause-row : goal.returns-then-stands_at-clause-row
returns-then-stands_at-clause-row c = rw (stands_among _ _ _ (c.if-stands_at.ensures.0 (search rules))) refl
