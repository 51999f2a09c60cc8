use Rattle.std.proofs.Common.{arith}
use Rattle.port_core.proofs.BookLemmas.{EngineAdds, close_adds}
use Rattle.port_core.proofs.front.Front.close.Goals as goal

pub invariant_of-self : goal.invariant_of-self
invariant_of-self g c =
    let adds : EngineAdds 0 0 c.args.self.now.engine c.close.new.self = close_adds c.args.self.now.engine c.close.new.self c.moment-moment.result c.close.result c.close.ensures.made c.close.ensures.unchanged in
    record { accepted_is = omega (arith, c.args.self.now.accepted_is, adds.accepted_more); sent_is = omega (arith, c.args.self.now.sent_is, adds.sent_more) }
