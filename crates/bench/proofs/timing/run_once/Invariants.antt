use Rattle.bench.proofs.timing.run_once.Given as goal

abbrev pub ghosts-run_locked-A-Ledger : goal.ghosts-run_locked-A-Ledger
ghosts-run_locked-A-Ledger g a = record { name = a.accepted.name; parts = a.accepted.parts }

abbrev pub ghosts-run_locked-S-Ledger : goal.ghosts-run_locked-S-Ledger
ghosts-run_locked-S-Ledger g a = record { name = a.sent.name; parts = a.sent.parts }
