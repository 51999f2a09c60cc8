use Rattle.std.proofs.Common.{◌∙◌, arith, refl, sym}
use Rattle.journal_core.specs.declared.step.Step.TheVariants.{Dequeue, Enqueue}
use Rattle.sender_core.proofs.RoomLemmas.{counts_dequeue, counts_enqueue}
use Rattle.sender_core.proofs.room.Expected.of.Goals.{in-Dequeue, in-Enqueue}
use Rattle.sender_core.proofs.room.Expected.of.Goals as goal

pub loop-step-preserved : goal.loop-step-preserved
loop-step-preserved c =
    elim c.match-step.branch [
      | in-Enqueue w ↦
          let own = w.in-Enqueue in
          record {
            counts = rw (w.packets-is, w.dequeues-is)
                (counts_enqueue c.args.steps.now c.loop-step.step-index (Enqueue own.moment own.lane own.packet) c.step-item.result c.loop-step.packets c.loop-step.dequeues
                c.loop-step-test.true (sym c.step-item.is ∙ own.is) refl refl refl c.loop-step.invariant.counts);
            packets_fit = omega arith;
            dequeues_fit = omega arith;
          }
      | in-Dequeue w ↦
          let own = w.in-Dequeue in
          record {
            counts = rw (w.packets-is, w.dequeues-is)
                (counts_dequeue c.args.steps.now c.loop-step.step-index (Dequeue own.moment) c.step-item.result c.loop-step.packets c.loop-step.dequeues
                c.loop-step-test.true (sym c.step-item.is ∙ own.is) refl refl refl c.loop-step.invariant.counts);
            packets_fit = omega arith;
            dequeues_fit = omega arith;
          }
    ]
