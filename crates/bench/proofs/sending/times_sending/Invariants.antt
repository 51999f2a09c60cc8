use Rattle.bench.proofs.sending.times_sending.Given as goal

abbrev pub ghosts-sending-A-Ledger : goal.ghosts-sending-A-Ledger
ghosts-sending-A-Ledger g a = record { name = a.accepted.name; parts = a.accepted.parts }

abbrev pub ghosts-sending-S-Ledger : goal.ghosts-sending-S-Ledger
ghosts-sending-S-Ledger g a = record { name = a.sent.name; parts = a.sent.parts }
