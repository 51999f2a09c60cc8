use Rattle.std.proofs.Common.{arith}
use Rattle.flow_core.proofs.TopLemmas.{top_wins}
use Rattle.flow_core.proofs.winner_tree.raise.Goals as goal

pub raise_below_top-requires-clause-below : goal.raise_below_top-requires-clause-below
raise_below_top-requires-clause-below c = c.requires.tree.busy c.args.flow (omega arith)

pub raise_below_top-requires-clause-waits : goal.raise_below_top-requires-clause-waits
raise_below_top-requires-clause-waits c = omega (arith, top_wins c.requires.tree c.args.flow (omega arith))
