use Rattle.port_core.proofs.DeviceLemmas.{keeps_close}
use Rattle.port_core.proofs.lane_engine.LaneEngine.close.Goals as goal

pub invariant_of-self : goal.invariant_of-self
invariant_of-self g c = (
  keeps_close c.self.inside.engine c.close.new.self c.args.moment c.close.result c.self.inside.lanes.items c.close.ensures.made c.close.ensures.unchanged c.self.invariant.0,
  c.self.invariant.1,
)
