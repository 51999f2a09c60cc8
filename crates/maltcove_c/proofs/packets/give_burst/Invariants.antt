use Rattle.maltcove_c.proofs.Bursts.{Sending}
use Rattle.maltcove_c.proofs.packets.give_burst.Given as goal

abbrev pub invariant-loop-place : goal.invariant-loop-place
invariant-loop-place l = Sending l.initial.disc l.moment l.initial.out l.place l.out l.disc
