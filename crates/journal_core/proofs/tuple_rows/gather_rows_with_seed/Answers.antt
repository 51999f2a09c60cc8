use Rattle.std.proofs.Common.{◌∙◌}
use Rattle.journal_core.proofs.TallyLemmas.{rows_are_balanced, rows_are_settled, rows_settle}
use Rattle.journal_core.proofs.tuple_rows.gather_rows_with_seed.Goals as goal

pub settle-requires : goal.settle-requires
settle-requires c = rows_settle c.args.events.now c.requires.ids c.requires.once _ _ _ c.count_all.ensures

pub returns-clause-rows : goal.returns-clause-rows
returns-clause-rows c = c.into_rows.ensures ∙ c.settle.ensures ∙ rows_are_settled c.args.events.now c.requires.ids c.requires.once _ _ _ c.count_all.ensures

pub returns-clause-balance : goal.returns-clause-balance
returns-clause-balance c = rw (returns-clause-rows c) (rows_are_balanced c.args.events.now c.requires.ids c.requires.once)
