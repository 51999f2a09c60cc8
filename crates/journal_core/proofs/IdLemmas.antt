-- Lemmas on acceptances whose ids are consecutive numbers.
use Rattle.std.proofs.Common.{◌≡◌, ◌≢◌, ℕ, zero, suc, ◌+◌, ◌<◌, ◌≤◌, Bool, true, false, not, ◌||◌, List, [], ◌∷◌, ◌++◌, map, filter, length, get_or, eqb, Some, None, refl, sym, ap, subst, ◌∙◌, inl, inr, arith}
use Rattle.journal_core.proofs.Words.{AllByRecursion, range_with_len, cases_Bool, eqb-false, eq-eqb, ne_eqb, or_parts, nat_tests, get_or-map, length-map, All-from_recursion, recursion_from_All, find-append, get_or-range_with_len, length-range_with_len, Acceptance, named, is_among, passes}
use Rattle.journal_core.proofs.ListLemmas.{ByRecursion-all, ByRecursion-both, ByRecursion-parts, ByRecursion-weaker, filter_agree_on, filter_keeps_all}

abbrev pub id_of : Acceptance → ℕ
id_of a = a.id

-- the ids rise, from k on
abbrev pub Rises : ℕ → List Acceptance → Type 0
Rises k [] = Unit {0}
Rises k (a ∷ accepted) = (k ≤ a.id) × Rises (a.id + 1) accepted

Rises-lower : (j k : ℕ) (accepted : List Acceptance) → j ≤ k → Rises k accepted → Rises j accepted
Rises-lower j k [] h r = tt
Rises-lower j k (a ∷ accepted) h r = let low = r.0 in (omega arith, r.1)

-- ids that count up from k
pub Rises-range : (k n : ℕ) (accepted : List Acceptance) → map id_of accepted ≡ range_with_len k n → Rises k accepted
Rises-range k n [] e = tt
Rises-range k zero (a ∷ accepted) e = absurd cc
Rises-range k (suc n) (a ∷ accepted) e =
    let head : a.id ≡ k = cc in
    let tail : map id_of accepted ≡ range_with_len (k + 1) n = cc in
    (omega arith, subst (λ j. Rises (j + 1) accepted) (sym head) (Rises-range (k + 1) n accepted tail))

-- as many as they are, the id at each place, and that none is past the last
pub many_ids : (n : ℕ) (accepted : List Acceptance) → map id_of accepted ≡ range_with_len 0 n → length accepted ≡ n
many_ids n accepted ids = sym (length-map accepted id_of) ∙ ap length ids ∙ length-range_with_len 0 n

id_at : (n : ℕ) (accepted : List Acceptance) (i : ℕ) (a : Acceptance) → map id_of accepted ≡ range_with_len 0 n → i < n → (get_or accepted i a).id ≡ i
id_at n accepted i a ids low =
    let at = sym (get_or-map id_of accepted i a a.id (omega (arith, many_ids n accepted ids))) ∙ ap (λ l. get_or l i a.id) ids ∙ get_or-range_with_len 0 n i a.id low in
    omega arith

pub ids_below : (n : ℕ) (accepted : List Acceptance) → map id_of accepted ≡ range_with_len 0 n → AllByRecursion (λ a. a.id < n) accepted
ids_below n accepted ids = recursion_from_All (λ a. a.id < n) accepted (λ i a low. let len = many_ids n accepted ids in omega (arith, id_at n accepted i a ids (omega arith)))

pub Rises-filter : (p : Acceptance → Bool) (k : ℕ) (accepted : List Acceptance) → Rises k accepted → Rises k (filter p accepted)
Rises-filter p k [] r = tt
Rises-filter p k (a ∷ accepted) r =
    let ih = Rises-filter p (a.id + 1) accepted r.1 in
    let low = r.0 in
    elim (cases_Bool (p a)) [ inl t ↦ rw t (low, ih) | inr t ↦ rw t (Rises-lower k (a.id + 1) (filter p accepted) (omega arith) ih) ]

-- each id is at least the first
pub Rises-above : (k : ℕ) (accepted : List Acceptance) → Rises k accepted → AllByRecursion (λ a. k ≤ a.id) accepted
Rises-above k [] r = tt
Rises-above k (a ∷ accepted) r =
    let low = r.0 in
    (low, ByRecursion-weaker (λ b. a.id + 1 ≤ b.id) (λ b. k ≤ b.id) accepted (λ b h. omega arith) (Rises-above (a.id + 1) accepted r.1))

-- an acceptance's id is not among those before it
pub Rises-apart : (k : ℕ) (before after : List Acceptance) (a : Acceptance) → Rises k (before ++ a ∷ after) → is_among (map id_of before) a.id ≡ false
Rises-apart k [] after a r = refl
Rises-apart k (b ∷ before) after a r =
    let low = (ByRecursion-parts (λ c. b.id + 1 ≤ c.id) before (a ∷ after) (Rises-above (b.id + 1) (before ++ a ∷ after) r.1)).1.0 in
    rw (ne_eqb b.id a.id (λ s. omega arith)) (Rises-apart (b.id + 1) before after a r.1)

-- those whose ids are among the first ones are the first ones
pub Rises-rest : (k : ℕ) (before after : List Acceptance) → Rises k (before ++ after) → filter (λ a. not (is_among (map id_of before) a.id)) (before ++ after) ≡ after
Rises-rest k [] after r = filter_keeps_all (λ _. true) after (ByRecursion-all (λ _. true ≡ true) after (λ _. refl))
Rises-rest k (b ∷ before) after r =
    rw (eq-eqb b.id b.id refl)
    (filter_agree_on (λ a. not (eqb b.id a.id || is_among (map id_of before) a.id)) (λ a. not (is_among (map id_of before) a.id)) (before ++ after)
    (ByRecursion-weaker (λ a. b.id + 1 ≤ a.id) (λ a. not (eqb b.id a.id || is_among (map id_of before) a.id) ≡ not (is_among (map id_of before) a.id)) (before ++ after) (λ a low. rw (ne_eqb b.id a.id (λ s. omega arith))) (Rises-above (b.id + 1) (before ++ after) r.1))
    ∙ Rises-rest (b.id + 1) before after r.1)

-- an id that none has is not found
pub named_none : (accepted : List Acceptance) (id : ℕ) → AllByRecursion (λ (a : Acceptance). a.id ≢ id) accepted → named accepted id ≡ None
named_none [] id h = refl
named_none (a ∷ accepted) id h = rw (ne_eqb a.id id h.0) (named_none accepted id h.1)

-- each acceptance is found by its id
pub named_itself : (k : ℕ) (accepted : List Acceptance) → Rises k accepted → AllByRecursion (λ a. named accepted a.id ≡ Some a) accepted
named_itself k [] r = tt
named_itself k (a ∷ accepted) r =
    let behind = ByRecursion-both _ _ accepted (Rises-above (a.id + 1) accepted r.1) (named_itself (a.id + 1) accepted r.1) in
    (rw (eq-eqb a.id a.id refl), ByRecursion-weaker (λ b. (a.id + 1 ≤ b.id) × (named accepted b.id ≡ Some b)) (λ b. named (a ∷ accepted) b.id ≡ Some b) accepted (λ b h. let low = h.0 in rw (ne_eqb a.id b.id (λ s. omega arith)) h.1) behind)

-- each number that an id has is found, at its place
pub named_at : (n : ℕ) (accepted : List Acceptance) (id : ℕ) (a : Acceptance) → map id_of accepted ≡ range_with_len 0 n → id < n → named accepted id ≡ Some (get_or accepted id a)
named_at n accepted id a ids low =
    let len = many_ids n accepted ids in
    ap (named accepted) (sym (id_at n accepted id a ids low))
    ∙ All-from_recursion (λ b. named accepted b.id ≡ Some b) accepted (named_itself 0 accepted (Rises-range 0 n accepted ids)) id a (omega arith)

pub named_within : (n : ℕ) (accepted : List Acceptance) (id : ℕ) → map id_of accepted ≡ range_with_len 0 n → id < n → (a : Acceptance) × (named accepted id ≡ Some a)
named_within n [] id ids low = let len = many_ids n [] ids in absurd (omega arith)
named_within n (a ∷ accepted) id ids low = (get_or (a ∷ accepted) id a, named_at n (a ∷ accepted) id a ids low)

-- the test of an acceptance that its id finds
pub passes_at : (test : Acceptance → Bool) (accepted : List Acceptance) (id : ℕ) (a : Acceptance) → named accepted id ≡ Some a → passes test accepted id ≡ test a
passes_at test accepted id a e = rw e

-- more acceptances leave the test of a known id
pub passes-append : (test : Acceptance → Bool) (accepted more : List Acceptance) (id : ℕ) (a : Acceptance) → named accepted id ≡ Some a → passes test (accepted ++ more) id ≡ passes test accepted id
passes-append test accepted more id a e = rw (find-append (λ b. eqb b.id id) accepted more, e) refl

-- an id that differs from each is not among them
pub is_among_none : (ids : List ℕ) (id : ℕ) → AllByRecursion (λ x. x ≢ id) ids → is_among ids id ≡ false
is_among_none [] id h = refl
is_among_none (x ∷ ids) id h = rw (ne_eqb x id h.0) (is_among_none ids id h.1)

pub differs_from_each : (ids : List ℕ) (id : ℕ) → is_among ids id ≡ false → AllByRecursion (λ x. id ≢ x) ids
differs_from_each [] id e = tt
differs_from_each (x ∷ ids) id e =
    let parts = or_parts (eqb x id) (is_among ids id) e in
    (λ s. eqb-false x id parts.0 (sym s), differs_from_each ids id parts.1)

-- a filter that passes the id leaves whether it is among them
pub is_among-filter : (q : ℕ → Bool) (ids : List ℕ) (id : ℕ) → q id ≡ true → is_among (filter q ids) id ≡ is_among ids id
is_among-filter q [] id t = refl
is_among-filter q (x ∷ ids) id t = grind (arith, nat_tests, cases_Bool (q x), is_among-filter q ids id t, t)
