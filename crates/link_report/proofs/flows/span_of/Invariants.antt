use Rattle.std.proofs.Common.{◌≡◌, take}
use Rattle.link_report.specs.FlowTables.{latest}
use Rattle.link_report.proofs.flows.span_of.Given as goal

-- the last moment of the packets so far
abbrev pub invariant-loop-packet : goal.invariant-loop-packet
invariant-loop-packet l = l.last ≡ latest l.end (take l.packet-index l.packets)
