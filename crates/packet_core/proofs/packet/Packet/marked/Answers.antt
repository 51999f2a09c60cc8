use Rattle.std.proofs.Common.{◌∙◌, ap}
use Rattle.packet_core.specs.Packets.{PacketParts}
use Rattle.packet_core.specs.declared.packet.Ecn.TheVariants.{Ce}
use Rattle.packet_core.proofs.PackedLemmas.{marked_packed, marked_parts}
use Rattle.packet_core.proofs.packet.Packet.marked.Goals as goal

pub invariant_of-result : goal.invariant_of-result
invariant_of-result c = marked_packed c.self.inside c.self.invariant

pub returns : goal.returns
returns c = marked_parts c.self.inside ∙ ap (λ (p : PacketParts). record p { ecn = Ce }) c.self.view_is
