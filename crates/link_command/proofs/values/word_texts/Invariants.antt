use Rattle.std.proofs.Common.{◌≡◌, map, string_bytes, take}
use Rattle.link_command.proofs.values.word_texts.Given as goal

-- the texts so far are those of the words so far
abbrev pub invariant-loop-word : goal.invariant-loop-word
invariant-loop-word l = map (λ t. t.now) l.texts.items ≡ map string_bytes (take l.word-index l.words)
