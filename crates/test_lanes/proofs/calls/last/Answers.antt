use Rattle.std.proofs.Common.{rules}
use Rattle.port_core.specs.Devices.{rings_of}
use Rattle.test_lanes.proofs.LaneEndLemmas.{ring_last}
use Rattle.test_lanes.proofs.calls.last.Goals as goal

pub returns-clause-ring : goal.returns-clause-ring
returns-clause-ring g c = ring_last c.pop.new.self.items c.expect-sender.result (rings_of c.args.opened.now.device.lanes) c.len.result (search rules) (search rules)
