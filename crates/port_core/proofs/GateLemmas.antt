-- What a gate let through, call by call.
use Rattle.std.proofs.Common.{ℕ, ◌+◌, ◌<◌, ◌≤◌, arith, ⊎_elim, subst, sym}
use Rattle.std.proofs.lemmas.Bool.Decides.{eqb_tells}

-- each of the first calls, and the next one
pub through_more : (P : ℕ → Type 0) (n : ℕ) → ((call : ℕ) → 0 < call → call ≤ n → P call) → P (n + 1) → (call : ℕ) → 0 < call → call ≤ n + 1 → P call
through_more P n through next call some within =
    ⊎_elim (λ t. subst P (sym t.1) next) (λ t. through call some (omega (arith, within, t.1))) (eqb_tells call (n + 1))
