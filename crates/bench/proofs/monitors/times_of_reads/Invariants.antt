use Rattle.bench.proofs.monitors.times_of_reads.Given as goal

abbrev pub ghosts-reading : goal.ghosts-reading
ghosts-reading g a = record { book = a.blank }
