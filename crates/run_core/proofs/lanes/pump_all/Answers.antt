use Rattle.std.proofs.Common.{◌≡◌, ◌∙◌, ◌≤◌, arith, length, refl, subst, sym}
use Rattle.run_core.specs.DeviceRuns.{IsBurst, PumpsLanes}
use Rattle.run_core.proofs.DeviceRunLemmas.{pumps_all, pumps_next, pumps_none}
use Rattle.run_core.proofs.LaneRunLemmas.{pumped_same, same_more, same_still}
use Rattle.run_core.proofs.lanes.pump_all.Goals as goal

pub loop-lane-init : goal.loop-lane-init
loop-lane-init g c = (same_still c.args.device.now, refl)

pub loop-lane-preserved : goal.loop-lane-preserved
loop-lane-preserved g c =
    let pumped = c.in_ok-pump.ensures.pumped in
    let few : length pumped.packets ≤ 64 = omega (arith, pumped.count, c.in_ok-pump.ensures.burst) in (
      same_more c.args.device.now c.loop-lane.device c.pump.new.device c.loop-lane.invariant.0
          (pumped_same c.loop-lane.device c.pump.new.device c.loop-lane.lane c.args.now c.pump.result c.pump.ensures.pumped c.pump.ensures.rings c.pump.ensures.unchanged),
      pumps_next IsBurst c.args.now c.loop-lane.lane c.args.device.now.engine.steps c.loop-lane.device.engine.steps c.pump.new.device.engine.steps pumped.packets
          c.loop-lane.invariant.1 few pumped.steps,
    )

pub returns-then-is_closed-clause-pumped : goal.returns-then-is_closed-clause-pumped
returns-then-is_closed-clause-pumped g c =
    let steps = c.args.device.now.engine.steps in
    pumps_none IsBurst c.args.now steps steps (length c.args.device.now.lanes) (sym c.is_closed.ensures ∙ c.if-is_closed.true) refl

pub returns-clause-pumped : goal.returns-clause-pumped
returns-clause-pumped g c =
    let old = c.args.device.now.engine.steps in
    let new = c.loop-lane.device.engine.steps in
    let all : c.loop-lane.lane ≡ length c.args.device.now.lanes = omega (arith, c.loop-lane-test.false, c.loop-lane.auto.lane-end, c.lanes-lane-end.ensures) in
    pumps_all IsBurst c.args.now old new (length c.args.device.now.lanes) (sym c.is_closed.ensures ∙ c.if-is_closed.false)
    (subst (λ n. PumpsLanes IsBurst c.args.now old n new) all c.loop-lane.invariant.1)
