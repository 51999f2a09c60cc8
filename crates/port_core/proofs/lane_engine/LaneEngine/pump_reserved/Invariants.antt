use Rattle.std.proofs.Common.{◌≡◌, ◌≤◌, ◌-◌, length}
use Rattle.port_core.specs.Devices.{MayAccept, Pumps, rings_of}
use Rattle.port_core.proofs.lane_engine.LaneEngine.pump_reserved.Given as goal

abbrev pub invariant-loop-pumped : goal.invariant-loop-pumped
invariant-loop-pumped g l = Pumps l.fn.self l.lane l.now l.pumped l.self × (l.pumped ≤ l.burst)
    × (rings_of l.self.lanes ≡ rings_of l.fn.self.lanes) × (length l.self.lanes ≡ length l.fn.self.lanes)
    × (l.self.engine.room ≡ l.fn.self.engine.room - l.pumped)
    × MayAccept l.self.engine.sched.standing.state l.now (l.burst - l.pumped)

abbrev pub decreases-loop-pumped : goal.decreases-loop-pumped
decreases-loop-pumped g l = l.burst - l.pumped
