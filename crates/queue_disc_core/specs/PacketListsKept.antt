-- What callers see of the packets that went through a queue disc.
use Rattle.queue_disc_core.specs.declared.ghost_packets.GhostPackets.TheInside.{Inside}
use Rattle.queue_disc_core.specs.PacketLists.{Packets}

abbrev pub packet_lists_of : Inside → Packets
packet_lists_of l = record {
  accepted = l.accepted.items;
  sent = l.sent.items;
  read = l.read.items;
  flushed = l.flushed.items;
  unrenewed = l.unrenewed.items;
}
