use Rattle.test_ports.proofs.seats.plays_in_room.Given as goal

abbrev pub ghosts-at_seats-A-Ledger : goal.ghosts-at_seats-A-Ledger
ghosts-at_seats-A-Ledger g a = record { name = a.accepted.name; parts = a.accepted.parts }

abbrev pub ghosts-at_seats-S-Ledger : goal.ghosts-at_seats-S-Ledger
ghosts-at_seats-S-Ledger g a = record { name = a.sent.name; parts = a.sent.parts }
