use Rattle.test_lanes.proofs.calls.plays.Given as goal

abbrev pub ghosts-at_lanes : goal.ghosts-at_lanes
ghosts-at_lanes g a = record { book = a.blank }
