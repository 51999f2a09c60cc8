-- What a close of a run answers, by what the port answered.
use Rattle.std.proofs.Common.{◌≡◌, ◌≢◌, ◌⊎◌, ◌∙◌, ℕ, Ok, Err, IfErr, IfOk, IsOk, MatchResult, OnOk, Result, inl, inr, subst, sym}
use Rattle.std.proofs.lemmas.Bool.{false≢true}
use Rattle.journal_core.specs.declared.step.Refusal.{Refusal}
use Rattle.journal_core.specs.declared.step.Refusal.TheVariants.{ClosedAlready}

-- The close is made, or it is refused as one that comes after another; what it answers is then no fault.
pub record Closes {X : Type 0} (IsMade : ℕ → Type 0) (IsRefused : Refusal → Type 0) (result : Result X Refusal) : Type 0 where
  pub made : OnOk result (((at : ℕ) × IsMade at) ⊎ IsRefused ClosedAlready)
  pub refused : IfErr result IsRefused
  pub other : IfErr result (λ why. why ≢ ClosedAlready)

pub closes : {X : Type 0} (IsMade : ℕ → Type 0) (IsRefused : Refusal → Type 0) (answer : Result ℕ Refusal) (result : Result X Refusal)
    → MatchResult answer (λ _. IsOk result) (λ why. MatchResult result (λ _. why ≡ ClosedAlready) (λ fault. (fault ≡ why) × (why ≢ ClosedAlready)))
    → IfOk answer IsMade → IfErr answer IsRefused → Closes IsMade IsRefused result
closes IsMade IsRefused (Ok at) (Ok done) is made refused = record { made = inl (at, made); refused = tt; other = tt }
closes IsMade IsRefused (Ok at) (Err fault) is made refused = absurd (false≢true is)
closes IsMade IsRefused (Err why) (Ok done) is made refused = record { made = inr (subst IsRefused is refused); refused = tt; other = tt }
closes IsMade IsRefused (Err why) (Err fault) is made refused =
    record { made = tt; refused = subst IsRefused (sym is.0) refused; other = λ same. is.1 (sym is.0 ∙ same) }
