use Rattle.std.proofs.Common.{◌∙◌, ◌-◌, ◌^◌, ◌<◌, arith, take, length}
use Rattle.std.proofs.lemmas.List.{length-take-le}
use Rattle.link_command.proofs.MarkLemmas.{counts_few, counts_none, counts_turn, replicate_none}
use Rattle.link_command.proofs.marks.counts_of.Goals as goal

pub loop-packet-init : goal.loop-packet-init
loop-packet-init c =
    (rw c.tuples.ensures at c.in_ok-counts.ensures) ∙ replicate_none c.args.packets.now.tuples ∙ counts_none c.args.interval 0 c.args.packets.now.tuples

pub loop-packet-preserved : goal.loop-packet-preserved
loop-packet-preserved c =
    counts_turn c.args.interval c.args.packets.now.packets c.args.packets.now.tuples c.loop-packet.packet-index _ c.loop-packet.counts.items _ (rw c.records-packet-items.ensures at c.loop-packet-test.true) c.loop-packet.invariant
    (rw c.records-packet-items.ensures at c.count.ensures)

pub count-requires : goal.count-requires
count-requires c =
    let packets = c.args.packets.now.packets in
    let i = c.loop-packet.packet-index in
    let low : i < length packets = rw c.records-packet-items.ensures at c.loop-packet-test.true in
    let few : length (take i packets) < 2 ^ 64 - 1 = omega (arith, length-take-le i packets (omega (arith, low)), low, c.loop-packet-test.true) in
    rw c.loop-packet.invariant (counts_few (2 ^ 64 - 1) c.args.interval 0 (take i packets) c.args.packets.now.tuples few)
