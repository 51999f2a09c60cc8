use Rattle.std.proofs.Common.{arith}
use Rattle.flow_core.proofs.NodeLemmas.{levels_least}
use Rattle.flow_core.proofs.winner_tree.levels_over.Goals as goal

pub returns : goal.returns
returns c = levels_least c.args.flows c.loop-leaves.levels (omega arith) (omega arith)
