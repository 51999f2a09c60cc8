use Rattle.std.proofs.Common.{rules}
use Rattle.packet_core.proofs.PackedTupleLemmas.{masked_packed, masked_tuple}
use Rattle.packet_core.proofs.tuple_words.TupleWords.of_packet.Goals as goal

pub invariant_of-result : goal.invariant_of-result
invariant_of-result c = masked_packed _ _ c.args.fields (search rules) c.requires

pub returns : goal.returns
returns c = masked_tuple _ _ c.args.fields (search rules)
