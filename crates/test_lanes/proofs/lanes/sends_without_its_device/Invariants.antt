use Rattle.test_lanes.proofs.lanes.sends_without_its_device.Given as goal

abbrev pub ghosts-sends_alone : goal.ghosts-sends_alone
ghosts-sends_alone g a = record { book = a.blank }
