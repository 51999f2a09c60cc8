use Rattle.std.proofs.Common.{arith, refl}
use Rattle.journal_core.specs.declared.step.Step.TheVariants.{Enqueue}
use Rattle.sched_core.proofs.EngineRuns.{advanced_on, told_on}
use Rattle.sched_core.proofs.engine.Engine.enqueue.Goals as goal

pub invariant_of-self-2 : goal.invariant_of-self-2
invariant_of-self-2 g c =
    let reserved = c.in_ok-reserve.ensures {u = tt} in
    let done = c.in_ok-admitted.ensures {u = tt} in
    told_on (Enqueue c.args.moment c.args.lane c.args.packet) c.self.invariant (advanced_on c.self.invariant.run done.made) (omega (arith, done.room))
    (rw (c.record.ensures.told, reserved.told) refl) (omega (arith, c.record.ensures.room, reserved.room)) c.saturating_sub-self-inside.ensures
