-- Words in the form in which they are read, one word later.
use Rattle.std.proofs.Common.{◌≡◌, ◌∙◌, ◌+◌, ◌<◌, ◌≤◌, ℕ, suc, Bor, Global, List, String, map, string_bytes, take, ap₂, [], ◌∷◌, ◌++◌, Option, length, get_or, drop, sym, ap, arith, append_assoc, append-nil, drop-cons}
use Rattle.std.proofs.lemmas.List.{drop_all, get_or-map, length-map, map-append, take_more}
use Rattle.link_command.specs.PlainWords.{awaited_after, plain_from, word_in}
use Rattle.link_command.specs.declared.plain.ValueKind.{ValueKind}

pub plain_more : (words : List (List ℕ)) (i : ℕ) (w : List ℕ) (front all : List (List ℕ)) (awaited : Option ValueKind) → i < length words
    → w ≡ get_or words i w → front ++ plain_from awaited (drop i words) ≡ all
    → (front ++ word_in awaited w ∷ []) ++ plain_from (awaited_after awaited w) (drop (i + 1) words) ≡ all
unfolding plain_from
plain_more words i w front all awaited within is so_far =
    let next : i + 1 ≡ suc i = omega arith in
    let cut : drop i words ≡ w ∷ drop (i + 1) words = drop-cons words i w within ∙ ap (λ x. x ∷ drop (suc i) words) (sym is) ∙ ap (λ n. w ∷ drop n words) (sym next) in
    append_assoc front (word_in awaited w ∷ []) (plain_from (awaited_after awaited w) (drop (i + 1) words))
    ∙ ap (λ ws. front ++ plain_from awaited ws) (sym cut) ∙ so_far

pub plain_end : (words : List (List ℕ)) (i : ℕ) (front all : List (List ℕ)) (awaited : Option ValueKind) → length words ≤ i
    → front ++ plain_from awaited (drop i words) ≡ all → front ≡ all
unfolding plain_from
plain_end words i front all awaited past so_far =
    sym (append-nil front) ∙ ap (λ ws. front ++ plain_from awaited ws) (sym (drop_all i words past)) ∙ so_far

pub texts_more : (words : List (String Global)) (i : ℕ) (x : String Global) (texts : List (Bor (List ℕ))) (t : Bor (List ℕ)) → i < length words
    → x ≡ get_or words i x → map (λ w. w.now) texts ≡ map string_bytes (take i words) → t.now ≡ string_bytes x
    → map (λ w. w.now) (texts ++ t ∷ []) ≡ map string_bytes (take (i + 1) words)
texts_more words i x texts t within is before same =
    map-append (λ (w : Bor (List ℕ)). w.now) texts (t ∷ []) ∙ ap₂ (λ xs y. xs ++ y ∷ []) before (same ∙ ap string_bytes is)
    ∙ sym (map-append string_bytes (take i words) (get_or words i x ∷ [])) ∙ ap (map string_bytes) (sym (take_more words i x within))

pub plain_next : (words : List (Bor (List ℕ))) (i : ℕ) (d : Bor (List ℕ)) (front : List (List ℕ)) (text : List ℕ) (all : List (List ℕ)) (awaited : Option ValueKind)
    → i < length words → text ≡ word_in awaited (get_or words i d).now → front ++ plain_from awaited (drop i (map (λ w. w.now) words)) ≡ all
    → (front ++ text ∷ []) ++ plain_from (awaited_after awaited (get_or words i d).now) (drop (i + 1) (map (λ w. w.now) words)) ≡ all
plain_next words i d front text all awaited within told so_far =
    let ws : List (List ℕ) = map (λ (w : Bor (List ℕ)). w.now) words in
    let many : i < length ws = omega (arith, length-map words (λ (w : Bor (List ℕ)). w.now)) in
    let is : (get_or words i d).now ≡ get_or ws i (get_or words i d).now =
    sym (get_or-map (λ (w : Bor (List ℕ)). w.now) words i d (get_or words i d).now within) in
    ap (λ t. (front ++ t ∷ []) ++ plain_from (awaited_after awaited (get_or words i d).now) (drop (i + 1) ws)) told
    ∙ plain_more ws i (get_or words i d).now front all awaited many is so_far
