use Rattle.std.proofs.Common.{◌∙◌, ap, ℕ, List, ◌∷◌, ◌++◌, drop, rules}
use Rattle.std.specs.Prelude.{slice_index}
use Rattle.std.specs.Int.{w64, from_le_bytes, to_le_bytes}
use Rattle.packet_core.proofs.PackedLemmas.{sixteen}
use Rattle.packet_core.proofs.packed.ipv6_words.Goals as goal

pub returns-clause-words : goal.returns-clause-words
returns-clause-words c =
    let whole = sixteen c.args.octets (search rules) in
    let back = ap (λ (bytes : List ℕ). from_le_bytes w64 (drop 8 bytes)) whole in
    λ i. (c.word_of-front.ensures.word i, (c.word_of-back.ensures.word ∙ back) i)

pub returns-clause-back : goal.returns-clause-back
returns-clause-back c =
    ap (λ (bytes : List ℕ). bytes ++ to_le_bytes w64 c.word_of-back.result) c.word_of-front.ensures.back
    ∙ ap (λ (bytes : List ℕ). slice_index c.args.octets 0 ∷ slice_index c.args.octets 1 ∷ slice_index c.args.octets 2 ∷ slice_index c.args.octets 3 ∷ slice_index c.args.octets 4 ∷ slice_index c.args.octets 5 ∷ slice_index c.args.octets 6 ∷ slice_index c.args.octets 7 ∷ bytes) c.word_of-back.ensures.back
    ∙ sixteen c.args.octets (search rules)
