use Rattle.journal_core.proofs.tuple_rows.RowsByTuple.count_all.Goals as goal

pub count-requires-clause-follow : goal.count-requires-clause-follow
count-requires-clause-follow c = rw c.listed-told.ensures c.requires.follow
