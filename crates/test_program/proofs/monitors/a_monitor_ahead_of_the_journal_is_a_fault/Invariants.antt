use Rattle.test_program.proofs.monitors.a_monitor_ahead_of_the_journal_is_a_fault.Given as goal

abbrev pub ghosts-is_ahead : goal.ghosts-is_ahead
ghosts-is_ahead g a = record { book = a.blank }
