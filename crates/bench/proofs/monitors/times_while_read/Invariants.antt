use Rattle.bench.proofs.monitors.times_while_read.Given as goal

abbrev pub ghosts-while_read : goal.ghosts-while_read
ghosts-while_read g a = record { book = a.blank }
