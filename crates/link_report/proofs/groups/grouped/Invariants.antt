use Rattle.std.proofs.Common.{◌≡◌, take}
use Rattle.link_report.specs.Groups.{groups_from}
use Rattle.link_report.proofs.groups.grouped.Given as goal

-- the packets so far stand in their groups
abbrev pub invariant-loop-packet : goal.invariant-loop-packet
invariant-loop-packet l = l.groups.items ≡ groups_from 0 (take l.packet-index l.packets.packets) l.packets.tuples
