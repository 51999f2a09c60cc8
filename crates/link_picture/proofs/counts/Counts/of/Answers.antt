use Rattle.std.proofs.Common.{arith}
use Rattle.link_picture.proofs.CountLemmas.{counts_turn}
use Rattle.link_picture.proofs.counts.Counts.of.Goals as goal

pub loop-packet-preserved : goal.loop-packet-preserved
loop-packet-preserved c =
    counts_turn c.loop-packet.packet-index c.args.packets.now _ c.loop-packet.counts _ c.loop-packet-test.true (omega arith) c.loop-packet.invariant c.with-counts.ensures
