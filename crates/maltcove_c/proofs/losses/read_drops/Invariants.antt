use Rattle.maltcove_c.proofs.Readings.{Reading}
use Rattle.maltcove_c.proofs.losses.read_drops.Given as goal

abbrev pub invariant-loop-place : goal.invariant-loop-place
invariant-loop-place l = Reading l.initial.disc l.initial.out l.place l.out l.disc
