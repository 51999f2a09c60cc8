use Rattle.bench.proofs.unstored.totals_of_passing.Given as goal

abbrev pub ghosts-pass : goal.ghosts-pass
ghosts-pass g a = record { book = a.blank }
