use Rattle.port_core.proofs.DeviceLemmas.{begins_close}
use Rattle.port_core.proofs.device.Device.close.Goals as goal

pub invariant_of-self : goal.invariant_of-self
invariant_of-self g c =
    begins_close c.self.inside.publisher c.self.inside.fed c.close.new.self c.args.moment c.close.result c.close.ensures.made c.close.ensures.unchanged c.self.invariant
