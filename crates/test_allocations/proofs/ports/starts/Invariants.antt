use Rattle.test_allocations.proofs.ports.starts.Given as goal

abbrev pub ghosts-started-A-Ledger : goal.ghosts-started-A-Ledger
ghosts-started-A-Ledger g a = record { name = a.accepted.name; parts = a.accepted.parts }

abbrev pub ghosts-started-S-Ledger : goal.ghosts-started-S-Ledger
ghosts-started-S-Ledger g a = record { name = a.sent.name; parts = a.sent.parts }
