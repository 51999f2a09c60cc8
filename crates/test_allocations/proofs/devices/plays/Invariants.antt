use Rattle.test_allocations.proofs.devices.plays.Given as goal

abbrev pub ghosts-plays_in : goal.ghosts-plays_in
ghosts-plays_in g a = record { book = a.blank }
