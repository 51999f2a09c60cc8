use Rattle.test_program.proofs.locked.gate_locked.Given as goal

abbrev pub ghosts-at_gates-A-Ledger : goal.ghosts-at_gates-A-Ledger
ghosts-at_gates-A-Ledger g a = record { name = a.accepted.name; parts = a.accepted.parts }

abbrev pub ghosts-at_gates-S-Ledger : goal.ghosts-at_gates-S-Ledger
ghosts-at_gates-S-Ledger g a = record { name = a.sent.name; parts = a.sent.parts }
