-- Lemmas on lists, filters and look-ups, whatever the elements are.
use Rattle.std.proofs.Common.{◌≡◌, ℕ, Bool, true, cond, List, [], ◌∷◌, ◌++◌, length, map, filter, sum_by, find, Some, refl, sym, ap, ◌∙◌, inl, inr, arith}
use Rattle.journal_core.proofs.Words.{AllByRecursion, cases_Bool, sum_by-cons}

-- what is found is an element
pub All-found : {X : Type 0} (P : X → Type 0) (p : X → Bool) (xs : List X) (x : X) → AllByRecursion P xs → find p xs ≡ Some x → P x
All-found P p [] x h e = absurd cc
All-found P p (y ∷ xs) x h e = let here = h.0 in grind (arith, cases_Bool (p y), All-found P p xs x h.1, here, e)

-- two tests that agree at each element of the list keep the same elements
pub filter_agree_on : {X : Type 0} (p q : X → Bool) (xs : List X) → AllByRecursion (λ x. p x ≡ q x) xs → filter p xs ≡ filter q xs
filter_agree_on p q [] h = refl
filter_agree_on p q (x ∷ xs) h = rw h.0 (ap (λ r. cond (q x) (x ∷ r) r) (filter_agree_on p q xs h.1))

-- a test that passes each element keeps them all
pub filter_keeps_all : {X : Type 0} (p : X → Bool) (xs : List X) → AllByRecursion (λ x. p x ≡ true) xs → filter p xs ≡ xs
filter_keeps_all p [] h = refl
filter_keeps_all p (x ∷ xs) h = rw h.0 (ap (λ r. x ∷ r) (filter_keeps_all p xs h.1))

-- two filters in either order
pub filter_comm : {X : Type 0} (p q : X → Bool) (xs : List X) → filter p (filter q xs) ≡ filter q (filter p xs)
filter_comm p q [] = refl
filter_comm p q (x ∷ xs) = grind (arith, cases_Bool (p x), cases_Bool (q x), filter_comm p q xs)

-- a filter by a test that implies another is a filter of what the other keeps
pub filter_within : {X : Type 0} (p q : X → Bool) (xs : List X) → AllByRecursion (λ x. p x ≡ true → q x ≡ true) xs → filter p xs ≡ filter p (filter q xs)
filter_within p q [] h = refl
filter_within p q (x ∷ xs) h = let here = h.0 in grind (arith, cases_Bool (p x), cases_Bool (q x), filter_within p q xs h.1, here)

-- a filter of a map
pub filter-map : {X Y : Type 0} (f : X → Y) (p : Y → Bool) (q : X → Bool) (xs : List X) → AllByRecursion (λ x. p (f x) ≡ q x) xs → filter p (map f xs) ≡ map f (filter q xs)
filter-map f p q [] h = refl
filter-map f p q (x ∷ xs) h = let here = h.0 in grind (arith, cases_Bool (q x), filter-map f p q xs h.1, here)

-- what holds of each element holds of each that a filter keeps, and of the parts of a list
pub ByRecursion-filter : {X : Type 0} (P : X → Type 0) (p : X → Bool) (xs : List X) → AllByRecursion P xs → AllByRecursion P (filter p xs)
ByRecursion-filter P p [] h = h
ByRecursion-filter P p (x ∷ xs) h = let rest = ByRecursion-filter P p xs h.1 in elim (cases_Bool (p x)) [ inl t ↦ rw t (h.0, rest) | inr t ↦ rw t rest ]

pub ByRecursion-passes : {X : Type 0} (p : X → Bool) (xs : List X) → AllByRecursion (λ x. p x ≡ true) (filter p xs)
ByRecursion-passes p [] = tt
ByRecursion-passes p (x ∷ xs) = let rest = ByRecursion-passes p xs in elim (cases_Bool (p x)) [ inl t ↦ rw t (t, rest) | inr t ↦ rw t rest ]

pub ByRecursion-parts : {X : Type 0} (P : X → Type 0) (xs ys : List X) → AllByRecursion P (xs ++ ys) → AllByRecursion P xs × AllByRecursion P ys
ByRecursion-parts P [] ys h = (tt, h)
ByRecursion-parts P (x ∷ xs) ys h = let parts = ByRecursion-parts P xs ys h.1 in ((h.0, parts.0), parts.1)

pub ByRecursion-append : {X : Type 0} (P : X → Type 0) (xs ys : List X) → AllByRecursion P xs → AllByRecursion P ys → AllByRecursion P (xs ++ ys)
ByRecursion-append P [] ys h k = k
ByRecursion-append P (x ∷ xs) ys h k = (h.0, ByRecursion-append P xs ys h.1 k)

pub ByRecursion-weaker : {X : Type 0} (P Q : X → Type 0) (xs : List X) → ((x : X) → P x → Q x) → AllByRecursion P xs → AllByRecursion Q xs
ByRecursion-weaker P Q [] f h = tt
ByRecursion-weaker P Q (x ∷ xs) f h = (f x h.0, ByRecursion-weaker P Q xs f h.1)

pub ByRecursion-all : {X : Type 0} (P : X → Type 0) (xs : List X) → ((x : X) → P x) → AllByRecursion P xs
ByRecursion-all P [] f = tt
ByRecursion-all P (x ∷ xs) f = (f x, ByRecursion-all P xs f)

pub ByRecursion-map : {X Y : Type 0} (f : X → Y) (P : Y → Type 0) (xs : List X) → AllByRecursion (λ x. P (f x)) xs → AllByRecursion P (map f xs)
ByRecursion-map f P [] h = tt
ByRecursion-map f P (x ∷ xs) h = (h.0, ByRecursion-map f P xs h.1)

-- two facts of each element
pub ByRecursion-both : {X : Type 0} (P Q : X → Type 0) (xs : List X) → AllByRecursion P xs → AllByRecursion Q xs → AllByRecursion (λ x. P x × Q x) xs
ByRecursion-both P Q [] h k = tt
ByRecursion-both P Q (x ∷ xs) h k = ((h.0, k.0), ByRecursion-both P Q xs h.1 k.1)

-- sums of functions that agree at each element
pub sum_by_agree_on : {X : Type 0} (f g : X → ℕ) (xs : List X) → AllByRecursion (λ x. f x ≡ g x) xs → sum_by f xs ≡ sum_by g xs
sum_by_agree_on f g [] h = refl
sum_by_agree_on f g (x ∷ xs) h = sum_by-cons f x xs ∙ rw (h.0, sum_by_agree_on f g xs h.1) (sym (sum_by-cons g x xs))

-- a length is a sum of ones
pub length_as_sum : {X : Type 0} (xs : List X) → length xs ≡ sum_by (λ (_ : X). 1) xs
length_as_sum [] = refl
length_as_sum (x ∷ xs) = omega (arith, length_as_sum xs, sum_by-cons (λ _. 1) x xs)
