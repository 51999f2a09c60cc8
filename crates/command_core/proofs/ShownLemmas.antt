-- Texts that are shown.
use Rattle.std.proofs.Common.{ap, subst, sym, ◌≡◌, ◌∙◌, ◌++◌, ◌∷◌, [], ℕ, List, true}
use Rattle.std.specs.Prelude.{All}
use Rattle.std.specs.Str.{IsUtf8, chars}
use Rattle.std.specs.Char.{IsScalar, encode_utf8}
use Rattle.std.proofs.lemmas.Str.{IsUtf8-encode, chars-append, chars-nil, chars_past_char}
use Rattle.std.proofs.lemmas.List.{append-nil}
use Rattle.std.proofs.lemmas.List.Elements.{All-append, All-cons, All-nil}
use Rattle.command_core.specs.Shown.{IsShown, is_shown}

-- a character that is shown, at the end of a text that is
pub shown_more : (text : List ℕ) (c : ℕ) → IsUtf8 text → IsScalar c → is_shown c ≡ true → IsShown text
    → IsShown (text ++ encode_utf8 c)
shown_more text c valid scalar is shown =
    let one : chars (encode_utf8 c) ≡ c ∷ [] = chars_past_char (encode_utf8 c) [] c (IsUtf8-encode c scalar) (sym (append-nil (encode_utf8 c))) ∙ ap (λ l. c ∷ l) chars-nil in
    let all = chars-append text (encode_utf8 c) valid ∙ ap (λ l. chars text ++ l) one in
    subst (All (λ x. is_shown x ≡ true)) (sym all) (All-append (λ x. is_shown x ≡ true) (chars text) (c ∷ []) shown (All-cons (λ x. is_shown x ≡ true) c [] is (All-nil (λ x. is_shown x ≡ true))))

-- no text
pub shown_none : IsShown []
shown_none = subst (All (λ x. is_shown x ≡ true)) (sym chars-nil) (All-nil (λ x. is_shown x ≡ true))
