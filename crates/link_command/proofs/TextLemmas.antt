-- Facts on texts.
use Rattle.std.proofs.Common.{◌≡◌, ℕ, List, false, inl, inr}
use Rattle.std.specs.Str.{bytes_eq}
use Rattle.std.proofs.lemmas.Bool.{cases_Bool}
use Rattle.std.proofs.lemmas.Slice.Eq.{bytes_eq-Decides}

-- texts that aren't the same are told apart
pub differ : (a b : List ℕ) → ¬ (a ≡ b) → bytes_eq a b ≡ false
differ a b h = elim (cases_Bool (bytes_eq a b)) [ inl e ↦ absurd (h ((bytes_eq-Decides a b).0 e)) | inr e ↦ e ]
