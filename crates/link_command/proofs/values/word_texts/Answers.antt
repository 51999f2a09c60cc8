use Rattle.std.proofs.Common.{◌≡◌, ◌∙◌, ap, arith, map, string_bytes, take}
use Rattle.std.proofs.lemmas.List.{take_all}
use Rattle.link_command.proofs.PlainLemmas.{texts_more}
use Rattle.link_command.proofs.values.word_texts.Goals as goal

pub loop-word-preserved : goal.loop-word-preserved
loop-word-preserved c =
    rw c.in_ok-push.ensures.items
    (texts_more c.args.words.now c.loop-word.word-index c.word-item.result c.loop-word.texts.items c.as_str.result (omega arith) c.word-item.is c.loop-word.invariant c.as_str.ensures.value)

pub returns : goal.returns
returns c =
    let all : take c.loop-word.word-index c.args.words.now ≡ c.args.words.now = take_all _ _ (omega arith) in
    c.loop-word.invariant ∙ ap (map string_bytes) all
