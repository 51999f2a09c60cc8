use Rattle.std.proofs.Common.{◌≡◌, ◌<◌, ◌++◌, ◌∙◌, arith, ap, get_or, length, length-set}
use Rattle.std.proofs.lemmas.List.{get_or-set_same}
use Rattle.port_core.proofs.DeviceLemmas.{keeps_look, ring_there}
use Rattle.port_core.proofs.lane_engine.LaneEngine.settle_lane.Goals as goal
use Rattle.port_core.proofs.lane_engine.LaneEngine.settle_lane.Goals.{After-self-1}
use Rattle.port_core.proofs.lane_engine.LaneEngine.settle_lane.Given.{Over}

there : (g : Over) (c : After-self-1 g) → c.args.lane < length c.self.inside.lanes.items
there g c = omega (arith, (ring_there c.args.self.now.lanes c.args.lane c.args.end.ring c.requires).0, ap (λ h. length h.lanes) c.self.view_is)

-- the lane came through with what came out of it
received : (g : Over) (c : After-self-1 g) → c.settle.new.self.received ≡ (get_or c.self.inside.lanes.items c.args.lane c.index_mut.result.now).received
received g c = c.settle.ensures.same.1 ∙ ap (λ l. l.received) c.index_mut.ensures.value

pub invariant_of-self : goal.invariant_of-self
invariant_of-self g c = let lanes = c.self.inside.lanes.items in (
  keeps_look c.self.inside.engine.sched.standing.events lanes c.args.lane c.settle.new.self c.index_mut.result.now (there g c) c.self.invariant.0 (received g c),
  omega (arith, length-set lanes c.args.lane c.settle.new.self, c.self.invariant.1),
)

pub returns-clause-left : goal.returns-clause-left
returns-clause-left g c d = rw (get_or-set_same c.self.inside.lanes.items c.args.lane c.settle.new.self d (there g c)) c.settle.ensures.left

pub returns-clause-submitted : goal.returns-clause-submitted
returns-clause-submitted g c d = rw (get_or-set_same c.self.inside.lanes.items c.args.lane c.settle.new.self d (there g c))
    (c.settle.ensures.submitted ∙ ap (λ ps. ps ++ c.settle.new.self.known) (received g c ∙ c.self.invariant.0.each c.args.lane c.index_mut.result.now (there g c)))

pub returns-clause-settled : goal.returns-clause-settled
returns-clause-settled g c d = rw (get_or-set_same c.self.inside.lanes.items c.args.lane c.settle.new.self d (there g c)) c.settle.ensures.settled
