use Rattle.bench.proofs.settling.times_settling.Given as goal

abbrev pub ghosts-settling-A-Ledger : goal.ghosts-settling-A-Ledger
ghosts-settling-A-Ledger g a = record { name = a.accepted.name; parts = a.accepted.parts }

abbrev pub ghosts-settling-S-Ledger : goal.ghosts-settling-S-Ledger
ghosts-settling-S-Ledger g a = record { name = a.sent.name; parts = a.sent.parts }
