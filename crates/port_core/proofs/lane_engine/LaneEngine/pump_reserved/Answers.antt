use Rattle.std.proofs.Common.{◌∙◌, ◌+◌, ◌-◌, arith, refl}
use Rattle.port_core.proofs.PumpLemmas.{accepts_fewer, pumps_more}
use Rattle.port_core.proofs.lane_engine.LaneEngine.pump_reserved.Goals as goal

pub loop-pumped-preserved : goal.loop-pumped-preserved
loop-pumped-preserved g c =
    let old = c.args.self.now in let mid = c.loop-pumped.self in let new = c.admit.new.self in
    let taken = c.if-not-admit.ensures.admitted in
    let k = c.loop-pumped.pumped in
    let kept = c.loop-pumped.invariant in (
      pumps_more old mid new c.args.lane c.args.now k kept.0 taken,
      omega (arith, c.loop-pumped-test.true),
      c.admit.ensures.rings ∙ kept.2,
      c.admit.ensures.number ∙ kept.3,
      omega (arith, c.if-not-admit.ensures.room refl, kept.4),
      accepts_fewer mid new c.args.lane c.args.now (c.args.burst - k) (c.args.burst - (k + 1)) (omega (arith, c.loop-pumped-test.true)) kept.5 taken,
    )
