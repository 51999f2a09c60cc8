-- What `split_ascii_whitespace` gives are the words of the text.
use Rattle.std.proofs.Common.{◌≡◌, ℕ, List, [], ◌∷◌, map, subst, sym}
use Rattle.std.specs.Prelude.{IfOk}
use Rattle.std.specs.declared.result.Result.{Result}
use Rattle.std.specs.declared.result.Result.TheVariants.{Ok, Err}
use Rattle.std.specs.Borrow.{Bor}
use Rattle.std.specs.Char.{is_ascii_whitespace}
use Rattle.std.specs.Iterator.{DrainsIf}
use Rattle.std.specs.List.{AllPass}
use Rattle.std.specs.Str.Iter.{split_ascii_whitespace_steps, split_ascii_whitespace_text}
use Rattle.std.specs.declared.str.SplitAsciiWhitespace.{SplitAscii}
use Rattle.maltcove_c.specs.Texts.{AreWords}

pub words_are : (xs : List (Bor (List ℕ))) (s : SplitAscii) (W : Type 0) → DrainsIf split_ascii_whitespace_steps W s xs → W → AreWords (split_ascii_whitespace_text s) (map (λ x. x.now) xs)
words_are [] s W k w = subst (λ (j : SplitAscii). AllPass is_ascii_whitespace (split_ascii_whitespace_text j)) (sym k.1) (k.2 w).1.0
words_are (x ∷ xs) s W k w =
    let cut = k.1.1 in
    (split_ascii_whitespace_text k.1.0, record { gap = cut.3.0; separator = cut.3.1; parts = cut.3.2; blank = cut.3.3; some = cut.0; whole = cut.1; ends = cut.3.4 }, words_are xs k.1.0 W (k.0, k.1.2, k.2) w)

-- The same of what is collected of them.
pub collected : {X E : Type 0} (items : X → List (Bor (List ℕ))) (W : X → Type 0) (G : List (Bor (List ℕ)) → X → Type 0) (r : Result X E) (s : SplitAscii)
    → ((v : X) → W v) → ((v : X) (xs : List (Bor (List ℕ))) → G xs v → items v ≡ xs)
    → IfOk r (λ v. (xs : List (Bor (List ℕ))) × DrainsIf split_ascii_whitespace_steps (W v) s xs × G xs v)
    → IfOk r (λ v. AreWords (split_ascii_whitespace_text s) (map (λ x. x.now) (items v)))
collected items W G (Ok v) s all same h = subst (λ (ys : List (Bor (List ℕ))). AreWords (split_ascii_whitespace_text s) (map (λ x. x.now) ys)) (sym (same v h.0 h.2)) (words_are h.0 s (W v) h.1 (all v))
collected items W G (Err e) s all same h = tt
