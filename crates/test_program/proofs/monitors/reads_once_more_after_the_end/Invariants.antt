use Rattle.test_program.proofs.monitors.reads_once_more_after_the_end.Given as goal

abbrev pub ghosts-sees_the_end : goal.ghosts-sees_the_end
ghosts-sees_the_end g a = record { book = a.blank }
