use Rattle.std.proofs.Common.{Bor, List, ℕ, map, string_bytes, ◌∷◌, [], arith}
use Rattle.std.proofs.lemmas.List.{length-map, map-append}
use Rattle.link_command.proofs.PlainLemmas.{plain_end, plain_next}
use Rattle.link_command.proofs.plain.plain_words.Goals as goal

pub loop-word-preserved : goal.loop-word-preserved
loop-word-preserved c =
    rw (c.in_ok-push.ensures.items, map-append string_bytes c.loop-word.plain.items (c.in_ok-text.text ∷ []), c.awaited_after-awaited.ensures)
    (plain_next c.args.words.now c.loop-word.word-index _ (map string_bytes c.loop-word.plain.items) (string_bytes c.in_ok-text.text) _ c.loop-word.awaited (omega arith) c.in_ok-text.ensures c.loop-word.invariant)

pub returns : goal.returns
returns c =
    plain_end (map (λ (w : Bor (List ℕ)). w.now) c.args.words.now) c.loop-word.word-index (map string_bytes c.loop-word.plain.items) _ c.loop-word.awaited
    (omega (arith, length-map c.args.words.now (λ (w : Bor (List ℕ)). w.now))) c.loop-word.invariant
