use Rattle.std.proofs.Common.{take}
use Rattle.link_picture.specs.Lines.{AreLineCounts}
use Rattle.link_picture.proofs.lines.counts_of.Given as goal

-- the counts of the packets so far
abbrev pub invariant-loop-packet : goal.invariant-loop-packet
invariant-loop-packet l = AreLineCounts l.fn.tuples (take l.packet-index l.packets) l.counts.items
