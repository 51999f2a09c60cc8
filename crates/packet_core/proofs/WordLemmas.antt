-- The words that are left, and the reading of the first of them.
use Rattle.std.proofs.Common.{Bor, ◌≡◌, ◌≤◌, ◌<◌, ℕ, ◌+◌, ◌-◌, List, [], ◌∷◌, Option, None, Result, refl, ap, ◌∙◌, arith, take, drop, length, get_or, map}
use Rattle.std.proofs.lemmas.List.{take_all}
use Rattle.packet_core.specs.Words.{param_word_of, read_from}
use Rattle.packet_core.specs.declared.params.ParamFields.{ParamFields}
use Rattle.packet_core.specs.declared.words.ParamWord.{ParamWord}
use Rattle.packet_core.specs.declared.words.ParamFault.{ParamFault}

-- what stands behind a list's first item
abbrev pub behind_first : {A : Type 0} → List A → List A
behind_first xs = take (length xs - 1) (drop 1 xs)

behind_first_is : {A : Type 0} (x : A) (xs : List A) → behind_first (x ∷ xs) ≡ xs
behind_first_is x xs = take_all (length (x ∷ xs) - 1) xs (omega arith)

pub length-behind_first : {A : Type 0} (xs : List A) → 1 ≤ length xs → length (behind_first xs) + 1 ≡ length xs
length-behind_first [] some = absurd (omega arith)
length-behind_first (x ∷ xs) some = rw (behind_first_is x xs) (omega arith)

-- the words that references point to
abbrev pub texts : List (Bor (List ℕ)) → List (List ℕ)
texts words = map (λ word. word.now) words

pub no_texts : (words : List (Bor (List ℕ))) → length words < 1 → texts words ≡ []
no_texts [] none = refl
no_texts (word ∷ words) none = absurd (omega arith)

-- the first of them, of which something is known, and the others
pub first_text : {X : Type 0} {x : X} (f : List ℕ → X) (words : List (Bor (List ℕ))) (d : Bor (List ℕ)) → 1 ≤ length words → f (get_or words 0 d).now ≡ x
    → (word : List ℕ) × (f word ≡ x) × (texts words ≡ word ∷ texts (behind_first words))
first_text f [] d some e = absurd (omega arith)
first_text f (word ∷ words) d some e = (word.now, e, rw (behind_first_is word words) refl)

-- the reading goes on with the first word that is left of n words
pub first_read : {all : Result ParamFields ParamFault} {asked : Option ParamWord} (p : ParamFields) (n : ℕ) (rest : List (Bor (List ℕ))) (d : Bor (List ℕ))
    → length rest ≤ n → 1 ≤ length rest → all ≡ read_from (n - length rest + 1) None p (texts rest) → param_word_of (get_or rest 0 d).now ≡ asked
    → (word : List ℕ) × (param_word_of word ≡ asked) × (all ≡ read_from (n - length (behind_first rest)) None p (word ∷ texts (behind_first rest)))
first_read p n rest d within some reading e =
    let first = first_text param_word_of rest d some e in
    let less = length-behind_first rest some in
    let place : n - length rest + 1 ≡ n - length (behind_first rest) = omega arith in
    (first.0, first.1, reading ∙ ap (λ (ws : List (List ℕ)). read_from (n - length rest + 1) None p ws) first.2 ∙ ap (λ (i : ℕ). read_from i None p (first.0 ∷ texts (behind_first rest))) place)
