use Rattle.port_core.proofs.DeviceLemmas.{keeps_dequeue}
use Rattle.port_core.proofs.lane_engine.LaneEngine.dequeue.Goals as goal

pub invariant_of-self : goal.invariant_of-self
invariant_of-self g c = (
  keeps_dequeue c.self.inside.engine c.dequeue.new.self c.args.moment c.dequeue.result c.self.inside.lanes.items c.dequeue.ensures.made c.dequeue.ensures.unchanged c.self.invariant.0,
  c.self.invariant.1,
)
