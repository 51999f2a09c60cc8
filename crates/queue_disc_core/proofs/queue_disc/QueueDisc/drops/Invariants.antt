use Rattle.queue_disc_core.proofs.Readings.{Reading}
use Rattle.queue_disc_core.proofs.queue_disc.QueueDisc.drops.Given as goal

abbrev pub invariant-loop-place : goal.invariant-loop-place
invariant-loop-place l = Reading l.initial.self l.initial.out l.place l.out l.self
