use Rattle.test_monitors.proofs.calls.plays.Given as goal

abbrev pub ghosts-at_lane : goal.ghosts-at_lane
ghosts-at_lane g a = record { book = a.blank }
