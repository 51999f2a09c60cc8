use Rattle.std.proofs.Common.{arith}
use Rattle.port_core.proofs.BookLemmas.{EngineAdds, enqueue_adds}
use Rattle.port_core.proofs.front.Front.enqueue.Goals as goal

pub invariant_of-self-2 : goal.invariant_of-self-2
invariant_of-self-2 g c =
    let adds : EngineAdds 1 0 c.args.self.now.engine c.enqueue.new.self = enqueue_adds c.args.self.now.engine c.enqueue.new.self c.in_ok-admitted.ensures.made in
    record { accepted_is = omega (arith, c.args.self.now.accepted_is, c.add.ensures.total, adds.accepted_more); sent_is = omega (arith, c.args.self.now.sent_is, adds.sent_more) }
