use Rattle.test_lanes.proofs.lanes.outlives_its_device.Given as goal

abbrev pub ghosts-outlives : goal.ghosts-outlives
ghosts-outlives g a = record { book = a.blank }
