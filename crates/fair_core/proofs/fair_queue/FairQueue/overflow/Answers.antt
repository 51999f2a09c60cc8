use Rattle.std.proofs.lemmas.Bool.{iff_false}
use Rattle.fair_core.proofs.DroppedPackets.{fewer_wait, lost_all, lost_more, lost_none}
use Rattle.fair_core.proofs.OverflowLemmas.{exceeding_waits}
use Rattle.fair_core.proofs.fair_queue.FairQueue.overflow.Goals as goal

pub loop-self-init : goal.loop-self-init
loop-self-init g c = lost_none c.args.params.now c.args.moment c.args.self.now c.args.journal.now c.requires

pub lose_batch-requires-clause-waits : goal.lose_batch-requires-clause-waits
lose_batch-requires-clause-waits g c =
    exceeding_waits c.args.params.now c.loop-self.self.queues.lists.queues (c.exceeds.ensures.0 (cc))

pub loop-self-preserved : goal.loop-self-preserved
loop-self-preserved g c =
    lost_more c.args.params.now c.args.moment c.args.self.now c.loop-self.self c.lose_batch.new.self c.args.journal.now c.loop-self.journal c.lose_batch.new.journal
    c.loop-self.invariant (c.exceeds.ensures.0 (cc)) (rw c.drop_batch.ensures.value at c.lose_batch.ensures)

pub loop-self-smaller : goal.loop-self-smaller
loop-self-smaller g c =
    fewer_wait c.drop_batch.result c.args.moment c.loop-self.self c.lose_batch.new.self c.loop-self.journal c.lose_batch.new.journal c.drop_batch.ensures.range.0 c.lose_batch.ensures

pub returns : goal.returns
returns g c =
    lost_all c.args.params.now c.args.moment c.args.self.now c.loop-self.self c.args.journal.now c.loop-self.journal c.loop-self.invariant (iff_false c.exceeds.ensures (cc))
