use Rattle.run_core.proofs.locked.run_locked.Given as goal

abbrev pub ghosts-run_lists-A-Ledger : goal.ghosts-run_lists-A-Ledger
ghosts-run_lists-A-Ledger g a = record { name = a.accepted.name; parts = a.accepted.parts }

abbrev pub ghosts-run_lists-S-Ledger : goal.ghosts-run_lists-S-Ledger
ghosts-run_lists-S-Ledger g a = record { name = a.sent.name; parts = a.sent.parts }
