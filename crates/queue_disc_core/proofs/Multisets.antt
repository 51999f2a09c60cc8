-- Lists that are the same but for their order.
use Rattle.std.proofs.Common.{◌≡◌, ℕ, ◌<◌, Bool, true, cond, List, [], ◌∷◌, ◌++◌, sum_by, ap, sym, subst, inl, inr, arith}
use Rattle.std.specs.List.Sorted.{IsPermutation}
use Rattle.std.proofs.lemmas.Bool.{cases_Bool}
use Rattle.std.proofs.lemmas.List.Sums.{sum_by-append, sum_by-cons}
use Rattle.std.proofs.lemmas.List.Sorted.{IsPermutation-cons, IsPermutation-middle, IsPermutation-refl, IsPermutation-sym, IsPermutation-trans}

-- A test of whether two are one.
pub record Tells {X : Type 0} (same : X → X → Bool) : Type 0 where
  pub yes : (a b : X) → same a b ≡ true → a ≡ b
  pub itself : (a : X) → same a a ≡ true

module _ {X : Type 0} (same : X → X → Bool) (tells : Tells same) where
  abbrev as_often : X → X → ℕ
  as_often a b = cond (same a b) 1 0

  -- what is counted stands there
  record Stands (a : X) (ys : List X) : Type 0 where
    before : List X
    after : List X
    is : ys ≡ before ++ a ∷ after

  stands : (a : X) (ys : List X) → 0 < sum_by (as_often a) ys → Stands a ys
  stands a [] some = absurd (omega arith)
  stands a (y ∷ ys) some =
      let one = sum_by-cons (as_often a) y ys in
      elim (cases_Bool (same a y)) [
        | inl t ↦ record { before = []; after = ys; is = ap (λ x. x ∷ ys) (sym (tells.yes a y t)) }
        | inr t ↦
            let none : as_often a y ≡ 0 = rw t in
            let rest = stands a ys (omega arith) in
            record { before = y ∷ rest.before; after = rest.after; is = ap (λ l. y ∷ l) rest.is }
      ]

  -- Where whatever is added up over the one list is the same over the other, the one is the other in another order.
  pub same_sums : (xs ys : List X) → ((f : X → ℕ) → sum_by f xs ≡ sum_by f ys) → IsPermutation xs ys
  same_sums [] [] sums = IsPermutation-refl []
  same_sums [] (y ∷ ys) sums =
      let one : 0 ≡ sum_by (λ (x : X). 1) (y ∷ ys) = sums (λ x. 1) in
      let more = sum_by-cons (λ (x : X). 1) y ys in
      absurd (omega arith)
  same_sums (x ∷ xs) ys sums =
      let first : as_often x x ≡ 1 = rw (tells.itself x) in
      let counted = sum_by-cons (as_often x) x xs in
      let same_count = sums (as_often x) in
      let s = stands x ys (omega arith) in
      let rest : (f : X → ℕ) → sum_by f xs ≡ sum_by f (s.before ++ s.after) = λ f.
      let whole = sums f in
      let here : sum_by f ys ≡ sum_by f (s.before ++ x ∷ s.after) = ap (sum_by f) s.is in
      let a = sum_by-cons f x xs in
      let b = sum_by-append f s.before (x ∷ s.after) in
      let c = sum_by-cons f x s.after in
      let d = sum_by-append f s.before s.after in
      omega arith in
      subst (IsPermutation (x ∷ xs)) (sym s.is)
      (IsPermutation-trans (x ∷ xs) (x ∷ (s.before ++ s.after)) (s.before ++ x ∷ s.after) (IsPermutation-cons x xs (s.before ++ s.after) (same_sums xs (s.before ++ s.after) rest))
      (IsPermutation-sym (s.before ++ x ∷ s.after) (x ∷ (s.before ++ s.after)) (IsPermutation-middle s.before x s.after)))
