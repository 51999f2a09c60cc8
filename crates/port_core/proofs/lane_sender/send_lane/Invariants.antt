use Rattle.std.proofs.Common.{◌≡◌, ◌≤◌, ◌<◌, ◌+◌, ◌++◌, ℕ, take}
use Rattle.port_core.proofs.lane_sender.send_lane.Given as goal
use Rattle.port_core.specs.declared.gate.Stop.TheVariants as stop

abbrev pub invariant-loop-packet : goal.invariant-loop-packet
invariant-loop-packet g l = (l.submitted ≡ l.packet-index) × (l.stop ≡ stop.Done)
    × (l.sender ≡ record l.fn.sender { submitted = l.fn.sender.submitted ++ take l.submitted l.packets; room = l.sender.room })
    × (l.fn.sender.room ≤ l.sender.room + l.submitted)
    × ((call : ℕ) → 0 < call → call ≤ l.submitted → g.G.Gate.LetThrough l.gate call)
