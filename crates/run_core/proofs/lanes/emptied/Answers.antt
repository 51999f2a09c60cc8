use Rattle.std.proofs.Common.{◌∙◌, ◌-◌, ◌≤◌, ◌<◌, ap, arith, refl, sym}
use Rattle.port_core.specs.Devices.{DeviceState}
use Rattle.port_core.specs.Lanes.{accepted}
use Rattle.run_core.proofs.DeviceRunLemmas.{empties_none, empties_open}
use Rattle.run_core.proofs.LaneRunLemmas.{Emptying, emptying_more, emptying_none}
use Rattle.run_core.proofs.lanes.emptied.Goals as goal
use Rattle.run_core.proofs.lanes.emptied.Given.{Over}
use Rattle.run_core.proofs.lanes.emptied.Goals.{In_ok-left}

-- a pump has taken some of what is left
taken : (g : Over) (c : In_ok-left g) → (c.in_ok-left.field-0 ≤ c.loop-left.left) × (0 < c.loop-left.left → 0 < c.in_ok-left.field-0)
    × Emptying c.args.device.now c.args.lane c.last_moment-now.result (c.loop-left.left - c.in_ok-left.field-0) c.pump.new.device
taken g c = emptying_more c.args.device.now c.loop-left.device c.pump.new.device c.args.lane c.last_moment-now.result c.loop-left.left c.in_ok-left.field-0
    (omega (arith, c.requires.lane, c.loop-left.invariant.same.number)) c.loop-left.invariant c.in_ok-left.ensures.pumped c.in_ok-left.ensures.left c.in_ok-left.ensures.rings

pub returns-in_err-left-clause-others : goal.returns-in_err-left-clause-others
returns-in_err-left-clause-others g c i apart = ap (λ (h : DeviceState). accepted i h.engine.sched.standing.events) c.in_err-left.ensures.unchanged ∙ c.loop-left.invariant.others i apart

pub overflow_sub-left : goal.overflow_sub-left
overflow_sub-left g c = (taken g (goal.at.overflow_sub-left g c).In_ok-left).0

pub loop-left-smaller : goal.loop-left-smaller
loop-left-smaller g c = let t = taken g (goal.at.loop-left-smaller g c).In_ok-left in omega (arith, t.0, t.1 c.loop-left-test.true, c.loop-left-test.true)

pub loop-left-preserved : goal.loop-left-preserved
loop-left-preserved g c = (taken g (goal.at.loop-left-preserved g c).In_ok-left).2

pub returns-then-is_closed-clause-emptied : goal.returns-then-is_closed-clause-emptied
returns-then-is_closed-clause-emptied g c = empties_none c.args.lane c.args.device.now.engine.steps c.args.device.now.engine.steps (sym c.is_closed.ensures ∙ c.if-is_closed.true) refl

pub returns-clause-emptied : goal.returns-clause-emptied
returns-clause-emptied g c =
    empties_open c.args.lane c.args.device.now.engine.steps c.loop-left.device.engine.steps c.loop-left.invariant.packets c.last_moment-now.result
    (sym c.is_closed.ensures ∙ c.if-is_closed.false) c.last_moment-now.ensures c.loop-left.invariant.steps

pub loop-left-init : goal.loop-left-init
loop-left-init g c = emptying_none c.args.device.now c.args.lane c.last_moment-now.result c.args.left c.requires.settled c.requires.left
