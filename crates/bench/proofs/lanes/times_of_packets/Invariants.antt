use Rattle.bench.proofs.lanes.times_of_packets.Given as goal

abbrev pub ghosts-opened_lanes : goal.ghosts-opened_lanes
ghosts-opened_lanes g a = record { book = a.blank }
