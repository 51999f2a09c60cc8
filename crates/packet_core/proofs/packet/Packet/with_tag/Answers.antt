use Rattle.std.proofs.Common.{ap}
use Rattle.packet_core.specs.Packets.{PacketParts}
use Rattle.packet_core.specs.PackedPackets.{parts_of}
use Rattle.packet_core.proofs.PackedLemmas.{tagged_packed}
use Rattle.packet_core.proofs.packet.Packet.with_tag.Goals as goal

pub invariant_of-result : goal.invariant_of-result
invariant_of-result c = tagged_packed c.self.inside c.args.tag c.self.invariant

pub returns : goal.returns
unfolding parts_of
returns c = ap (λ (p : PacketParts). record p { tag = c.args.tag }) c.self.view_is
