use Rattle.std.proofs.Common.{arith}
use Rattle.link_report.proofs.GroupLemmas.{groups_more}
use Rattle.link_report.proofs.groups.grouped.Goals as goal

pub loop-packet-preserved : goal.loop-packet-preserved
loop-packet-preserved c =
    groups_more c.args.packets.now.packets c.args.packets.now.tuples c.loop-packet.packet-index _ c.loop-packet.groups.items _ (rw c.records-packet-items.ensures at c.loop-packet-test.true) c.loop-packet.invariant
    (rw c.records-packet-items.ensures at (c.in_ok-add.ensures {u = tt}))
