use Rattle.std.proofs.Common.{arith}
use Rattle.std.proofs.lemmas.List.Edits.{map_over_more}
use Rattle.journal_core.proofs.Words.{settled}
use Rattle.journal_core.proofs.tuple_rows.RowsByTuple.settle.Goals as goal

pub loop-place-preserved : goal.loop-place-preserved
loop-place-preserved c = rw c.settle.ensures (map_over_more settled c.args.self.now.rows.items c.loop-place.self.rows.items c.loop-place.place c.index_mut.result.now (omega arith) c.loop-place.invariant c.index_mut.ensures.value)
