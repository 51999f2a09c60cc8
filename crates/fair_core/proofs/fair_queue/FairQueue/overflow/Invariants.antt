use Rattle.flow_core.specs.FlowLists.{waiting_in}
use Rattle.fair_core.proofs.DroppedPackets.{HasLost}
use Rattle.fair_core.proofs.fair_queue.FairQueue.overflow.Given as goal

abbrev pub invariant-loop-self : goal.invariant-loop-self
invariant-loop-self g l = HasLost l.params l.moment l.initial.self l.initial.journal l.self l.journal

abbrev pub decreases-loop-self : goal.decreases-loop-self
decreases-loop-self g l = waiting_in l.self.queues.lists
