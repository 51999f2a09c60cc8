use Rattle.std.proofs.Common.{◌≡◌, take}
use Rattle.link_report.specs.Summaries.{delays_of}
use Rattle.link_report.proofs.summary.delays_of.Given as goal

-- the delays so far
abbrev pub invariant-loop-packet : goal.invariant-loop-packet
invariant-loop-packet l = l.delays.items ≡ delays_of (take l.packet-index l.packets)
