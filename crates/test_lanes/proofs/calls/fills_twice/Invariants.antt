use Rattle.test_lanes.proofs.calls.fills_twice.Given as goal

abbrev pub ghosts-at_one_lane : goal.ghosts-at_one_lane
ghosts-at_one_lane g a = record { book = a.blank }
