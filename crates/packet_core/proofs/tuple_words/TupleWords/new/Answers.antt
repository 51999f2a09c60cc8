use Rattle.packet_core.proofs.PackedTupleLemmas.{tuple_back, tuple_words_packed}
use Rattle.packet_core.proofs.tuple_words.TupleWords.new.Goals as goal

pub invariant_of-result : goal.invariant_of-result
invariant_of-result c =
    tuple_words_packed c.args.tuple.now _ _ _ c.address_words.ensures.words c.address_words.ensures.back c.address_words-2.ensures.words c.address_words-2.ensures.back c.fields_word.ensures.word c.fields_word.ensures.back

pub returns : goal.returns
returns c =
    tuple_back c.args.tuple.now _ _ _ c.address_words.ensures.words c.address_words.ensures.back c.address_words-2.ensures.words c.address_words-2.ensures.back c.fields_word.ensures.word c.fields_word.ensures.back
