use Rattle.std.proofs.Common.{rules}
use Rattle.std.proofs.lemmas.Nat.{le_bytes_8}
use Rattle.packet_core.proofs.packed.word_of.Goals as goal

pub returns-clause-back : goal.returns-clause-back
returns-clause-back c = le_bytes_8 c.args.octets c.from_le_bytes.result (search rules) (search rules) c.from_le_bytes.ensures
