use Rattle.std.proofs.Common.{arith, refl}
use Rattle.journal_core.specs.declared.step.Step.TheVariants.{Close}
use Rattle.sched_core.proofs.EngineRuns.{advanced_on, told_on}
use Rattle.sched_core.proofs.engine.Engine.close.Goals as goal

pub invariant_of-self-2 : goal.invariant_of-self-2
invariant_of-self-2 g c =
    let reserved = c.in_ok-reserve.ensures {u = tt} in
    let done = c.end.ensures in
    told_on (Close c.args.moment) c.self.invariant (advanced_on c.self.invariant.run done.made) (omega (arith, done.room))
    (rw (c.record.ensures.told, reserved.told) refl) (omega (arith, c.record.ensures.room, reserved.room)) c.saturating_sub-self-inside.ensures
