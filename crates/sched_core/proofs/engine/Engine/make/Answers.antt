use Rattle.std.proofs.Common.{arith, refl}
use Rattle.sched_core.proofs.EngineRuns.{goes_on, told_on}
use Rattle.sched_core.proofs.engine.Engine.make.Goals as goal

pub invariant_of-self-2 : goal.invariant_of-self-2
invariant_of-self-2 g c =
    let reserved = c.in_ok-reserve.ensures {u = tt} in
    let gone = goes_on _ c.args.step.now c.in_ok-answer.answer _ _ c.self.invariant.run c.in_default.ensures c.in_ok-answer.ensures.goes_on in
    told_on c.args.step.now c.self.invariant gone.0 gone.1
    (rw (c.record.ensures.told, reserved.told) refl) (omega (arith, c.record.ensures.room, reserved.room)) c.saturating_sub-self-inside.ensures
