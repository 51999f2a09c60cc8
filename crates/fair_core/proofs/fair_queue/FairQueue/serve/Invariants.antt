use Rattle.fair_core.specs.TurnBound.{turns_at_most}
use Rattle.fair_core.proofs.ServedChains.{IsOnChain}
use Rattle.fair_core.proofs.fair_queue.FairQueue.serve.Given as goal

abbrev pub invariant-loop-next : goal.invariant-loop-next
invariant-loop-next g l = IsOnChain l.params l.now l.initial.self l.initial.journal l.turns l.self l.journal l.next

abbrev pub decreases-loop-next : goal.decreases-loop-next
decreases-loop-next g l = turns_at_most l.params.quantum l.self.queues
