use Rattle.port_core.proofs.DeviceLemmas.{begins_pump}
use Rattle.port_core.proofs.device.Device.pump.Goals as goal

pub invariant_of-self : goal.invariant_of-self
invariant_of-self g c =
    begins_pump c.self.inside.publisher c.self.inside.fed c.pump.new.self c.args.lane c.args.now c.pump.result c.pump.ensures.pumped c.pump.ensures.unchanged c.self.invariant
