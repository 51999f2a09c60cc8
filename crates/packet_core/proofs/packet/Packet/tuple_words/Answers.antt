use Rattle.std.proofs.Common.{◌∙◌, ap}
use Rattle.packet_core.specs.Packets.{PacketParts}
use Rattle.packet_core.specs.PackedPackets.{parts_of}
use Rattle.packet_core.proofs.PackedLemmas.{tagged_packed}
use Rattle.packet_core.proofs.packet.Packet.tuple_words.Goals as goal

pub of_packet-requires : goal.of_packet-requires
of_packet-requires c = tagged_packed c.self.inside 0 c.self.invariant

pub returns : goal.returns
unfolding parts_of
returns c = c.of_packet.ensures ∙ ap (λ (p : PacketParts). p.tuple) c.self.view_is
