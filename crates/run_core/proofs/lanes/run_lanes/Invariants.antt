use Rattle.run_core.proofs.lanes.run_lanes.Given as goal

abbrev pub ghosts-run_in_book : goal.ghosts-run_in_book
ghosts-run_in_book g a = record { book = a.blank }
