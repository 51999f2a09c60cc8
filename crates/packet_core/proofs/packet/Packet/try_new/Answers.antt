use Rattle.std.proofs.Common.{◌≡◌, rules, arith}
use Rattle.packet_core.specs.Packets.{PacketParts}
use Rattle.packet_core.proofs.PackedLemmas.{words_back, words_packed}
use Rattle.packet_core.proofs.packet.Packet.try_new.Goals as goal

pub invariant_of-result : goal.invariant_of-result
invariant_of-result c =
    let p : PacketParts = record { tuple = c.args.tuple; len = c.in-Ok.len; ecn = c.args.ecn; tag = 0 } in
    words_packed p _ _ _ c.address_words.ensures.words c.address_words.ensures.back c.address_words-in-Ok.ensures.words c.address_words-in-Ok.ensures.back c.fields_word.ensures.word c.fields_word.ensures.back (omega arith, omega arith)

pub returns-in-Ok-clause-parts : goal.returns-in-Ok-clause-parts
returns-in-Ok-clause-parts c =
    let len : c.in-Ok.len ≡ c.args.len = search rules in
    let p : PacketParts = record { tuple = c.args.tuple; len = c.in-Ok.len; ecn = c.args.ecn; tag = 0 } in
    rw (← len) (words_back p _ _ _ c.address_words.ensures.words c.address_words.ensures.back c.address_words-in-Ok.ensures.words c.address_words-in-Ok.ensures.back c.fields_word.ensures.word c.fields_word.ensures.back)
