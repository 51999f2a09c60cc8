-- The texts of a request.
use Rattle.std.proofs.Common.{◌≡◌, ◌∙◌, ap, Bor, List, [], ℕ, Option, Some, None, option_map, unwrap_or}
use Rattle.std.specs.Option.{is_some}

pub rate_text : (o : Option (Bor (List ℕ))) (r d : Bor (List ℕ)) (x : Option (List ℕ)) → r ≡ unwrap_or o d → d.now ≡ [] → option_map (λ s. s.now) o ≡ x
    → r.now ≡ unwrap_or x []
rate_text None r d x is empty same = ap (λ (s : Bor (List ℕ)). s.now) is ∙ empty ∙ ap (λ o. unwrap_or o []) same
rate_text (Some t) r d x is empty same = ap (λ (s : Bor (List ℕ)). s.now) is ∙ ap (λ o. unwrap_or o []) same

pub some_same : (o : Option (Bor (List ℕ))) (x : Option (List ℕ)) → option_map (λ s. s.now) o ≡ x → is_some o ≡ is_some x
some_same None x same = ap is_some same
some_same (Some t) x same = ap is_some same
