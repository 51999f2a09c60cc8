use Rattle.std.proofs.Common.{◌≡◌, take}
use Rattle.link_picture.specs.Lines.{packets_on}
use Rattle.link_picture.proofs.lines.packets_on.Given as goal

-- the packets of the line so far
abbrev pub invariant-loop-packet : goal.invariant-loop-packet
invariant-loop-packet l = l.own.items ≡ packets_on l.chosen l.line (take l.packet-index l.packets)
