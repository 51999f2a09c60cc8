use Rattle.std.proofs.Common.{arith}
use Rattle.link_report.proofs.PacketLemmas.{few_packets}
use Rattle.link_report.proofs.flows.queue_rows.Goals as goal

pub known_rows-requires : goal.known_rows-requires
known_rows-requires c = rw (c.in_ok-packets.ensures {u = tt}) (omega (arith, few_packets c.args.events.now))
