use Rattle.std.proofs.Common.{◌≡◌, ◌++◌, drop, map, string_bytes}
use Rattle.link_command.specs.PlainWords.{plain_from, plain_words_of}
use Rattle.link_command.proofs.plain.plain_words.Given as goal

-- the words so far, and then the others in the form in which they are read, are all
abbrev pub invariant-loop-word : goal.invariant-loop-word
invariant-loop-word l = map string_bytes l.plain.items ++ plain_from l.awaited (drop l.word-index (map (λ w. w.now) l.words)) ≡ plain_words_of (map (λ w. w.now) l.words)
