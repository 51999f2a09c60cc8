use Rattle.maltcove_c.proofs.Readings.{Flushing}
use Rattle.maltcove_c.proofs.losses.flush_into.Given as goal

abbrev pub invariant-loop-place : goal.invariant-loop-place
invariant-loop-place l = Flushing l.initial.disc l.initial.out l.place l.out l.disc
