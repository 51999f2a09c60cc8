use Rattle.test_costs.proofs.ports.unsettled.Given as goal

abbrev pub ghosts-asked-A-Ledger : goal.ghosts-asked-A-Ledger
ghosts-asked-A-Ledger g a = record { name = a.accepted.name; parts = a.accepted.parts }

abbrev pub ghosts-asked-S-Ledger : goal.ghosts-asked-S-Ledger
ghosts-asked-S-Ledger g a = record { name = a.sent.name; parts = a.sent.parts }
