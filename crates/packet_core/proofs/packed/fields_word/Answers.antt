use Rattle.std.proofs.Common.{arith, rules, ◌≡◌}
use Rattle.packet_core.specs.PackedPackets.{fields_word}
use Rattle.packet_core.proofs.PackedLemmas.{fields_back}
use Rattle.packet_core.proofs.packed.fields_word.Goals as goal

pub returns-clause-word : goal.returns-clause-word
unfolding fields_word
returns-clause-word c = omega arith

pub returns-clause-back : goal.returns-clause-back
returns-clause-back c =
    let word : c.joined-3.result ≡ fields_word (record { tuple = c.args.tuple.now; len = c.args.len; ecn = c.args.ecn; tag = 0 }) = returns-clause-word c in
    rw word (fields_back (record { tuple = c.args.tuple.now; len = c.args.len; ecn = c.args.ecn; tag = 0 }) (search rules) (search rules) (search rules) (search rules))
