use Rattle.std.proofs.Common.{arith}
use Rattle.packet_core.proofs.HashLemmas.{has_share}
use Rattle.packet_core.proofs.hash_share.hashes_are_shared.Goals as goal

pub returns : goal.returns
returns c = has_share c.args.values c.args.value (omega arith) (omega arith)
