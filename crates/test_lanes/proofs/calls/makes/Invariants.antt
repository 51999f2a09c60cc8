use Rattle.port_core.specs.Devices.{rings_of}
use Rattle.test_lanes.specs.Ends.{AreFirst, sender_rings}
use Rattle.test_lanes.proofs.calls.makes.Given as goal

abbrev pub invariant-loop-call : goal.invariant-loop-call
invariant-loop-call g l = AreFirst (sender_rings l.opened.senders.items) (rings_of l.opened.device.lanes)
