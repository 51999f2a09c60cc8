use Rattle.std.proofs.Common.{◌≡◌, ◌≤◌, take}
use Rattle.link_report.specs.Packets.{known_of}
use Rattle.link_report.proofs.packets.Packets.with_seed.Given as goal

-- what the events so far say
abbrev pub invariant-loop-event : goal.invariant-loop-event
invariant-loop-event l = (l.packets ≡ known_of (take l.event-index l.events)) × (l.packets.sent ≤ l.event-index)
