use Rattle.test_monitors.proofs.many.many_events_at_once.Given as goal

abbrev pub ghosts-plays : goal.ghosts-plays
ghosts-plays g a = record { book = a.blank }
