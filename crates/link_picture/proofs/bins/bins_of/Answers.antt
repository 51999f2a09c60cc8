use Rattle.std.proofs.Common.{arith}
use Rattle.link_picture.proofs.BinLemmas.{bins_turn}
use Rattle.link_picture.proofs.bins.bins_of.Goals as goal

pub loop-packet-preserved : goal.loop-packet-preserved
loop-packet-preserved c =
    let axis = c.args.axis.now in
    let before = c.loop-packet.invariant in
    let turn = bins_turn axis.width axis.first axis.count c.loop-packet.packet-index c.args.packets.now _ c.sent_len-len.result c.loop-packet.bins.items c.add.new.bins.items c.loop-packet-test.true (omega arith) c.sent_len-len.ensures c.sent_len-len.type_inv before.sums before.bins c.add.ensures in
    record { bins = turn.0; sums = turn.1 }
