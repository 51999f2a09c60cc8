use Rattle.test_lanes.proofs.calls.plays_unstored.Given as goal

abbrev pub ghosts-at_unstored : goal.ghosts-at_unstored
ghosts-at_unstored g a = record { book = a.blank }
