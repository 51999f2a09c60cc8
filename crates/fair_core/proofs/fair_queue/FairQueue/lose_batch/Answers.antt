use Rattle.std.proofs.Common.{◌≡◌, arith, length}
use Rattle.flow_core.specs.FlowLists.{queue_at}
use Rattle.fair_core.specs.HeldQueues.{held_of}
use Rattle.fair_core.specs.Overflow.{batch_size}
use Rattle.fair_core.proofs.DroppedPackets.{loses_batch}
use Rattle.fair_core.proofs.fair_queue.FairQueue.lose_batch.Goals as goal

pub returns : goal.returns
returns g c =
    let size : c.clamp-batch.result ≡ batch_size c.args.most (length (queue_at c.self.inside.flows.lists c.in-Some.flow)) = let len = c.len.ensures.value in let from = c.from.ensures in let clamp = c.clamp-batch.ensures in omega arith in
    rw (← c.self.view_is)
    (loses_batch c.args.most c.args.moment (held_of c.self.inside) c.args.journal.now c.drop_heads.new.journal c.in-Some.flow c.clamp-batch.result c.drop_heads.new.flows (c.in-Some.ensures {u = tt}).fattest size c.drop_heads.ensures)
