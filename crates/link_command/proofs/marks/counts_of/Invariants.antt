use Rattle.std.proofs.Common.{◌≡◌, map, take}
use Rattle.link_report.specs.Groups.{groups_from}
use Rattle.link_command.specs.Marks.{counts_of}
use Rattle.link_command.proofs.marks.counts_of.Given as goal

-- the counts of the packets so far
abbrev pub invariant-loop-packet : goal.invariant-loop-packet
invariant-loop-packet l =
    l.counts.items ≡ map (counts_of l.interval) (groups_from 0 (take l.packet-index l.packets.packets) l.packets.tuples)
