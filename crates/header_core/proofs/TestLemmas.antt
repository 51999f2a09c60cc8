-- What a test tells, and the first number at which a fact doesn't hold.
use Rattle.std.proofs.Common.{◌≡◌, ◌∙◌, ℕ, ◌<◌, ◌≤◌, ◌⊎◌, Bool, true, false, cond, Option, Some, None, ltb, inl, inr, refl}
use Rattle.std.proofs.lemmas.Bool.{cases_order, cond-false, le-ltb, ltb-false}

-- which of two values a choice is, and why
pub chosen : {X : Type 0} (b : Bool) (x y z : X) → cond b x y ≡ z → ((b ≡ true) × (x ≡ z)) ⊎ ((b ≡ false) × (y ≡ z))
chosen true x y z e = inl (refl, e)
chosen false x y z e = inr (refl, e)

-- a rule on an order that nothing breaks, before others
pub passed : {X : Type 0} (x m : ℕ) (v : X) (o : Option X) → cond (ltb x m) (Some v) o ≡ None → (m ≤ x) × (o ≡ None)
passed x m v o none =
    elim (chosen (ltb x m) (Some v) o None none) [
      | inl broken ↦ (let never : Some v ≡ None = broken.1 in cc)
      | inr kept ↦ (ltb-false x m kept.0, kept.1)
    ]

pub passes : {X : Type 0} (x m : ℕ) (v : X) (o : Option X) → m ≤ x → o ≡ None → cond (ltb x m) (Some v) o ≡ None
passes x m v o order none = cond-false (ltb x m) (Some v) o (le-ltb x m order) ∙ none

-- There is one first number at which a fact doesn't hold.
pub first_is_one : (P : ℕ → Type 0) (k m : ℕ) → ((j : ℕ) → j < k → P j) → (P k → ⊥) → ((j : ℕ) → j < m → P j) → (P m → ⊥) → k ≡ m
first_is_one P k m before_k not_k before_m not_m =
    elim (cases_order k m) [
      | inl same ↦ same
      | inr apart ↦ elim apart [ inl less ↦ absurd (not_k (before_m k less)) | inr more ↦ absurd (not_m (before_k m more)) ]
    ]
