use Rattle.bench.proofs.monitors.times_of_publishes.Given as goal

abbrev pub ghosts-publishing : goal.ghosts-publishing
ghosts-publishing g a = record { book = a.blank }
