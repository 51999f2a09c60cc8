use Rattle.std.proofs.Common.{◌<◌, ◌++◌, ◌∷◌, ◌∙◌, [], arith, ap, length, length-set, sym}
use Rattle.port_core.proofs.DeviceLemmas.{keeps_take, takes_packet}
use Rattle.port_core.proofs.lane_engine.LaneEngine.admit.Goals as goal
use Rattle.port_core.proofs.lane_engine.LaneEngine.admit.Goals.{In-Ok}
use Rattle.port_core.proofs.lane_engine.LaneEngine.admit.Given.{Over}

there : (g : Over) (c : In-Ok g) → c.args.lane < length c.self.inside.lanes.items
there g c = omega (arith, c.requires.lane, ap (λ h. length h.lanes) c.self.view_is)

pub invariant_of-self-2 : goal.invariant_of-self-2
invariant_of-self-2 g c = let lanes = c.self.inside.lanes.items in (
  keeps_take c.self.inside.engine c.enqueue.new.self lanes c.args.lane c.args.now c.in-Some.packet c.next.new.self c.index_mut.result.now (there g c) c.self.invariant.0
      (c.in-Some.ensures.some ∙ ap (λ l. l.received ++ c.in-Some.packet ∷ []) c.index_mut.ensures.value) c.in-Ok.ensures.made,
  omega (arith, length-set lanes c.args.lane c.next.new.self, c.self.invariant.1),
)

pub returns-clause-admitted : goal.returns-clause-admitted
returns-clause-admitted g c = let lanes = c.self.inside.lanes.items in
    takes_packet c.args.self.now c.self.inside.engine c.enqueue.new.self lanes c.args.lane c.args.now c.in-Some.packet c.next.new.self c.index_mut.result.now (sym c.self.view_is) (there g c) c.index_mut.ensures.value
    (record { ring = c.in-Some.ensures.same.0; settled = c.in-Some.ensures.same.1; received = c.in-Some.ensures.some; left = c.in-Some.ensures.settled }) c.in-Ok.ensures.made c.in-Ok.ensures.steps c.in-Ok.ensures.few_comparisons
