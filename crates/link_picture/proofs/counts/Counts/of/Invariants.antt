use Rattle.std.proofs.Common.{◌≡◌, take}
use Rattle.link_picture.specs.Counts.{counts_of}
use Rattle.link_picture.proofs.counts.Counts.of.Given as goal

-- the counts of the packets so far
abbrev pub invariant-loop-packet : goal.invariant-loop-packet
invariant-loop-packet l = l.counts ≡ counts_of (take l.packet-index l.packets)
