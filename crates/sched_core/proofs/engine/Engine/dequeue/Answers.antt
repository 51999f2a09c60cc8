use Rattle.std.proofs.Common.{arith, refl}
use Rattle.journal_core.specs.declared.step.Step.TheVariants.{Dequeue}
use Rattle.sched_core.proofs.EngineRuns.{served_on, told_on}
use Rattle.sched_core.proofs.engine.Engine.dequeue.Goals as goal

pub invariant_of-self-2 : goal.invariant_of-self-2
invariant_of-self-2 g c =
    let reserved = c.in_ok-reserve.ensures {u = tt} in
    let done = c.serve-sent.ensures in
    told_on (Dequeue c.args.moment) c.self.invariant (served_on c.self.invariant.run done.made) (omega (arith, done.made.room))
    (rw (c.record.ensures.told, reserved.told) refl) (omega (arith, c.record.ensures.room, reserved.room)) c.saturating_sub-self-inside.ensures
