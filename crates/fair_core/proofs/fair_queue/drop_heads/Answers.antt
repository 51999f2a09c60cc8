use Rattle.std.proofs.Common.{length, None, Some, refl, sym, ◌∙◌}
use Rattle.journal_core.specs.declared.event.Cause.TheVariants as cause
use Rattle.journal_core.specs.JournalDrops.{drops_none}
use Rattle.fair_core.proofs.ComparisonLemmas.{counts_none}
use Rattle.fair_core.proofs.DroppedPackets.{drops_next}
use Rattle.fair_core.proofs.fair_queue.drop_heads.Goals.{in-Some, in_default}
use Rattle.fair_core.proofs.fair_queue.drop_heads.Goals as goal

pub loop-preserved : goal.loop-preserved
loop-preserved g c =
    elim c.match-pop.branch [
      | in-Some w ↦ drops_next c.args.flow c.loop.counter c.args.moment c.args.flows.now c.loop.flows c.pop.new.self c.args.journal.now c.loop.journal _ c.loop.invariant c.requires.flow (Some w.in-Some.dropped) (sym w.in-Some.is ∙ c.pop.ensures.head) c.pop.ensures.rest c.pop.ensures.few_comparisons (w.journal-is ∙ w.drop.ensures)
      | in_default w ↦ drops_next c.args.flow c.loop.counter c.args.moment c.args.flows.now c.loop.flows c.pop.new.self c.args.journal.now c.loop.journal _ c.loop.invariant c.requires.flow None (sym w.in_default.is ∙ c.pop.ensures.head) c.pop.ensures.rest
          (counts_none (length c.loop.flows.lists.queues) c.loop.flows.comparisons c.pop.new.self.comparisons (c.pop.ensures.none_compares (rw w.in_default.is refl))) (w.journal-is ∙ drops_none c.loop.journal c.args.moment cause.Overflow)
    ]
