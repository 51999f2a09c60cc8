use Rattle.port_core.proofs.DeviceLemmas.{begins_dequeue}
use Rattle.port_core.proofs.device.Device.dequeue.Goals as goal

pub invariant_of-self : goal.invariant_of-self
invariant_of-self g c =
    begins_dequeue c.self.inside.publisher c.self.inside.fed c.dequeue.new.self c.args.moment c.dequeue.result c.dequeue.ensures.made c.dequeue.ensures.unchanged c.self.invariant
