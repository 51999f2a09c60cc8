use Rattle.bench.proofs.lanes.times_of_part.Given as goal

abbrev pub ghosts-submitting : goal.ghosts-submitting
ghosts-submitting g a = record { book = a.blank }

abbrev pub ghosts-pumping : goal.ghosts-pumping
ghosts-pumping g a = record { book = a.blank }
