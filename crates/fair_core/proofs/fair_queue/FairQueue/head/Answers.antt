use Rattle.std.proofs.Common.{arith}
use Rattle.fair_core.specs.HeldQueues.{held_of}
use Rattle.fair_core.proofs.TurnBoundLemmas.{few_turns}
use Rattle.fair_core.proofs.fair_queue.FairQueue.head.Goals as goal

pub returns-in-Some-clause-bound : goal.returns-in-Some-clause-bound
returns-in-Some-clause-bound c =
    rw (← c.self.view_is)
    (λ quantum some. let few = c.flows-flows.ensures.few_listed in let most = c.flows-flows.ensures.most in few_turns quantum ((held_of c.self.inside).queues) c.self.inside.arrived some c.self.invariant (omega arith))

pub returns-clause-bound : goal.returns-clause-bound
returns-clause-bound c =
    rw (← c.self.view_is)
    (λ quantum some. let few = c.flows-flows.ensures.few_listed in let most = c.flows-flows.ensures.most in few_turns quantum ((held_of c.self.inside).queues) c.self.inside.arrived some c.self.invariant (omega arith))
