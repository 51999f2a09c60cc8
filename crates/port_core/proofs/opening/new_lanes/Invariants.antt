use Rattle.port_core.specs.Devices.{AreNewLanes}
use Rattle.port_core.proofs.opening.new_lanes.Given as goal

abbrev pub invariant-loop-next : goal.invariant-loop-next
invariant-loop-next l = AreNewLanes l.senders.items l.lanes.items l.next l.capacity
