-- How much stands in front of a flow in the lists: a sum over the flows before it.
use Rattle.std.proofs.Common.{◌≡◌, ◌≢◌, ℕ, suc, ◌+◌, ◌*◌, ◌≤◌, ◌⊎◌, List, [], ◌∷◌, ◌++◌, length, sum_by, refl, inl, inr, arith}
use Rattle.std.specs.List.{AllByRecursion}
use Rattle.std.proofs.lemmas.Bool.{cases_eq}
use Rattle.std.proofs.lemmas.List.Sums.{sum_by-cons}
use Rattle.fair_core.proofs.OldFlows.{Has}

-- the flow stands in the list, and the sum of c over the flows before it is n at most
abbrev pub Ahead : (ℕ → ℕ) → ℕ → List ℕ → ℕ → Type 0
Ahead c f [] n = ⊥
Ahead c f (x ∷ xs) n = (x ≡ f) ⊎ ((m : ℕ) × (x ≢ f) × (c x + m ≤ n) × Ahead c f xs m)

module _ (c : ℕ → ℕ) (f : ℕ) where
  pub ahead_has : (xs : List ℕ) (n : ℕ) → Ahead c f xs n → Has xs f
  ahead_has [] n a = absurd a
  ahead_has (x ∷ xs) n (inl e) = inl e
  ahead_has (x ∷ xs) n (inr a) = inr (ahead_has xs a.0 a.3)

  -- flows behind it
  pub ahead_append : (xs ys : List ℕ) (n : ℕ) → Ahead c f xs n → Ahead c f (xs ++ ys) n
  ahead_append [] ys n a = absurd a
  ahead_append (x ∷ xs) ys n (inl e) = inl e
  ahead_append (x ∷ xs) ys n (inr a) = inr (a.0, a.1, a.2, ahead_append xs ys a.0 a.3)

  -- at the end of a list
  pub ahead_last : (xs : List ℕ) → Ahead c f (xs ++ f ∷ []) (sum_by c xs)
  ahead_last [] = inl refl
  ahead_last (x ∷ xs) =
      elim (cases_eq x f) [
        | inl e ↦ inl e
        | inr ne ↦ inr (sum_by c xs, ne, let e = sum_by-cons c x xs in omega arith, ahead_last xs)
      ]

-- where each counts so much at most
some_length : (ys : List ℕ) (f : ℕ) → Has ys f → (k : ℕ) × (length ys ≡ suc k)
some_length [] f h = absurd h
some_length (y ∷ ys) f h = (length ys, refl)

pub ahead_most : (c : ℕ → ℕ) (f most : ℕ) → ((x : ℕ) → c x ≤ most) → (xs : List ℕ) → Has xs f → (n : ℕ) → length xs ≡ suc n → Ahead c f xs (n * most)
ahead_most c f most each [] has n is = absurd has
ahead_most c f most each (x ∷ xs) has n is =
    elim (cases_eq x f) [
      | inl e ↦ inl e
      | inr ne ↦
          let h : Has xs f = elim has [ inl e ↦ absurd (ne e) | inr h ↦ h ] in
          let k = some_length xs f h in
          let here = each x in
          let len = k.1 in
          let e : suc k.0 * most ≡ k.0 * most + most = omega arith in
          let n_is : n ≡ suc k.0 = omega arith in
          rw n_is (inr (k.0 * most, ne, omega arith, ahead_most c f most each xs h k.0 k.1))
    ]

-- a sum that changes at none of the flows
pub ahead_same : (c c' : ℕ → ℕ) (f : ℕ) (xs : List ℕ) (n : ℕ) → AllByRecursion (λ x. c' x ≡ c x) xs → Ahead c f xs n → Ahead c' f xs n
ahead_same c c' f [] n same a = absurd a
ahead_same c c' f (x ∷ xs) n same (inl e) = inl e
ahead_same c c' f (x ∷ xs) n same (inr a) = let here = same.0 in let le = a.2 in inr (a.0, a.1, omega arith, ahead_same c c' f xs a.0 same.1 a.3)
