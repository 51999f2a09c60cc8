use Rattle.test_program.proofs.lanes.gate_lanes.Given as goal

abbrev pub ghosts-by_gates : goal.ghosts-by_gates
ghosts-by_gates g a = record { book = a.blank }
