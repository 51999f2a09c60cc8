use Rattle.queue_disc_core.proofs.Readings.{Flushing}
use Rattle.queue_disc_core.proofs.queue_disc.QueueDisc.flush.Given as goal

abbrev pub invariant-loop-place : goal.invariant-loop-place
invariant-loop-place l = Flushing l.initial.self l.initial.out l.place l.out l.self
