use Rattle.std.proofs.Common.{arith}
use Rattle.link_picture.proofs.ChoiceLemmas.{counts_turn}
use Rattle.link_picture.proofs.lines.counts_of.Goals as goal

pub loop-packet-preserved : goal.loop-packet-preserved
loop-packet-preserved c =
    counts_turn c.args.tuples c.loop-packet.packet-index c.args.packets.now _ c.loop-packet.counts.items c.count.new.counts.items c.loop-packet-test.true (omega arith) c.loop-packet.invariant c.count.ensures
