use Rattle.std.proofs.Common.{arith}
use Rattle.flow_core.proofs.linked_queues.LinkedQueues.total_len.Goals as goal

pub returns-clause-value : goal.returns-clause-value
returns-clause-value c = rw (← c.self.view_is) (omega (arith, c.len.ensures, c.self.invariant.counted))
