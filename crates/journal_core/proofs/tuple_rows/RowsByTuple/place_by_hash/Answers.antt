-- The set finds a five-tuple by its derived equality, and that tells what the test of all parts tells.
use Rattle.std.proofs.Common.{arith}
use Rattle.journal_core.proofs.TupleEquality.{any_agree}
use Rattle.journal_core.proofs.tuple_rows.RowsByTuple.place_by_hash.Goals as goal

pub returns-else-is_err-clause-tuples : goal.returns-else-is_err-clause-tuples
returns-else-is_err-clause-tuples c = rw (← any_agree c.args.tuple c.args.self.now.tuples.keys) (grind arith)

pub returns-else-is_err-clause-row : goal.returns-else-is_err-clause-row
returns-else-is_err-clause-row c = rw (← any_agree c.args.tuple c.args.self.now.tuples.keys) (grind arith)

pub returns-else-is_new-clause-tuples : goal.returns-else-is_new-clause-tuples
returns-else-is_new-clause-tuples c = rw (← any_agree c.args.tuple c.args.self.now.tuples.keys) (grind arith)

pub returns-else-is_new-clause-row : goal.returns-else-is_new-clause-row
returns-else-is_new-clause-row c = rw (← any_agree c.args.tuple c.args.self.now.tuples.keys) (grind arith)
