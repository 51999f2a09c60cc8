-- How the place of a word is found, a word at a time.
use Rattle.std.proofs.Common.{◌≡◌, ℕ, ◌+◌, ◌-◌, ◌<◌, ◌≤◌, List, drop, length, suc, take, zero, ap, refl, subst, sym, ◌∙◌, arith}
use Rattle.std.proofs.lemmas.List.{drop-drop, length-drop, take_all}
use Rattle.maltcove_c.specs.Places.{blanks_in_front, first_word_end, word_start}

one_more : (n : ℕ) (text : List ℕ) → word_start (suc n) text ≡ first_word_end text + word_start n (drop (first_word_end text) text)
unfolding word_start
one_more n text = refl

-- The place is so many bytes on, and is found in the text from there by so many words fewer.
pub record Places (text : List ℕ) (others words from : ℕ) : Type 0 where
  pub within : from ≤ length text
  pub left : word_start others text ≡ from + word_start (others - words) (drop from text)

-- a part of a text from a place to its end
rest_is : (text : List ℕ) (from : ℕ) → take (length text - from) (drop from text) ≡ drop from text
rest_is text from = take_all (length text - from) (drop from text) (subst (λ n. n ≤ length text - from) (sym (length-drop from text)) (omega arith))

pub places_first : (text : List ℕ) (others : ℕ) → Places text others 0 0
places_first text others =
    let all : others ≡ others - 0 = omega arith in
    let none : word_start (others - 0) text ≡ 0 + word_start (others - 0) text = omega arith in
    record { within = omega arith; left = ap (λ n. word_start n text) all ∙ none }

step_on : (text : List ℕ) (others words from step : ℕ) → Places text others words from → words < others → step ≡ first_word_end (drop from text)
    → from + step ≤ length text → Places text others (words + 1) (from + step)
step_on text others words from step places more is within =
    let n = others - (words + 1) in
    let rest = drop from text in
    let e : others - words ≡ suc n = omega arith in
    let one = ap (λ k. k + word_start n (drop k rest)) (sym is) in
    let sums : from + (step + word_start n (drop (from + step) text)) ≡ (from + step) + word_start n (drop (from + step) text) = omega arith in
    record { within = within; left = places.left ∙ ap (λ m. from + word_start m rest) e ∙ ap (λ y. from + y) (one_more n rest ∙ one) ∙ ap (λ ys. from + (step + word_start n ys)) (drop-drop step from text) ∙ sums }

pub places_on : (text : List ℕ) (others words from step : ℕ) → Places text others words from → words < others
    → step ≡ first_word_end (take (length text - from) (drop from text)) → step ≤ length text - from
    → Places text others (words + 1) (from + step)
places_on text others words from step places more is within =
    let inside = places.within in
    step_on text others words from step places more (is ∙ ap first_word_end (rest_is text from)) (omega arith)

pub places_last : (text : List ℕ) (others words from blanks : ℕ) → Places text others words from → words ≤ others → others ≤ words
    → blanks ≡ blanks_in_front (take (length text - from) (drop from text)) → from + blanks ≡ word_start others text
unfolding word_start
places_last text others words from blanks places most least is =
    let none : others - words ≡ zero = omega arith in
    ap (λ n. from + n) (is ∙ ap blanks_in_front (rest_is text from)) ∙ sym (places.left ∙ ap (λ n. from + word_start n (drop from text)) none)
