use Rattle.std.proofs.Common.{arith}
use Rattle.link_report.proofs.PacketLemmas.{few_packets}
use Rattle.link_picture.proofs.content.Content.of.Goals as goal

pub of_packets-requires : goal.of_packets-requires
of_packets-requires c = record {
  few = rw (c.in_ok-packets.ensures {u = tt}) (omega (arith, few_packets c.args.events.now));
  fifo_few = rw (c.in_ok-others.ensures {u = tt}) (omega (arith, few_packets c.events_or_none.result.now, c.events_or_none.ensures.few));
}

pub returns : goal.returns
returns c =
    rw (c.in_ok-packets.ensures {u = tt}, c.in_ok-others.ensures {u = tt}, c.events_or_none.ensures.value) at c.of_packets.ensures
