-- What has no fate and what has one make up what was accepted.
use Rattle.std.proofs.Common.{◌≡◌, ◌≢◌, ℕ, ◌+◌, ◌≤◌, Bool, false, cond, not, List, [], ◌∷◌, filter, sum_by, Option, Some, None, sym, ap, ◌∙◌, refl, inl, inr, arith}
use Rattle.std.specs.Option.{option_map_or}
use Rattle.journal_core.proofs.Words.{AllByRecursion, count_by, filter_map, cases_Bool, cases_eq, eq-eqb, ne_eqb, recursion_from_All, sum_by-cons, Event, Accepted, Sent, Dropped, Closed, Acceptance, fate_ids, is_among, named, passes, AreDistinct, sent_of, dropped_of}
use Rattle.journal_core.proofs.ListLemmas.{ByRecursion-weaker}
use Rattle.journal_core.proofs.IdLemmas.{Rises, Rises-above, is_among_none, named_none}

-- the acceptances whose ids are not among those
abbrev pub left_by : List ℕ → List Acceptance → List Acceptance
left_by fated accepted = filter (λ a. not (is_among fated a.id)) accepted

-- what f gives of the acceptance that has the id
abbrev pub weight_of : (Acceptance → ℕ) → List Acceptance → ℕ → ℕ
weight_of f accepted id = option_map_or f (named accepted id) 0

-- with one acceptance more at the front, its value is added where it has a fate
values_cons : (f : Acceptance → ℕ) (a : Acceptance) (accepted : List Acceptance) (fated : List ℕ) → named accepted a.id ≡ None → AreDistinct fated
    → sum_by (weight_of f (a ∷ accepted)) fated ≡ cond (is_among fated a.id) (f a) 0 + sum_by (weight_of f accepted) fated
values_cons f a accepted [] new once = omega arith
values_cons f a accepted (id ∷ fated) new once =
    let ih = values_cons f a accepted fated new once.1 in
    let more = sum_by-cons (weight_of f (a ∷ accepted)) id fated in
    let less = sum_by-cons (weight_of f accepted) id fated in
    elim (cases_eq a.id id) [
      | inl same ↦
          let its : weight_of f (a ∷ accepted) id ≡ f a = rw (eq-eqb a.id id same) in
          let none : weight_of f accepted id ≡ 0 = rw (ap (named accepted) (sym same) ∙ new) in
          let only : cond {A = ℕ} (is_among fated a.id) (f a) 0 ≡ 0 = rw (ap (is_among fated) same ∙ is_among_none fated id (recursion_from_All (λ other. other ≢ id) fated once.0)) in
          rw (eq-eqb id a.id (sym same)) (omega arith)
      | inr other ↦
          let its : weight_of f (a ∷ accepted) id ≡ weight_of f accepted id = rw (ne_eqb a.id id other) in
          rw (ne_eqb id a.id (λ s. other (sym s))) (omega arith)
    ]

-- Added up: what is left, and what the fates name.
pub sum_left : (f : Acceptance → ℕ) (k : ℕ) (accepted : List Acceptance) (fated : List ℕ) → Rises k accepted → AreDistinct fated → sum_by f (left_by fated accepted) + sum_by (weight_of f accepted) fated ≡ sum_by f accepted
sum_left f k [] fated rises once = nothing fated
  where
    nothing : (ids : List ℕ) → sum_by f [] + sum_by (weight_of f []) ids ≡ 0
    nothing [] = omega arith
    nothing (id ∷ ids) = let ih = nothing ids in let one = sum_by-cons (weight_of f []) id ids in omega arith
sum_left f k (a ∷ accepted) fated rises once =
    let ih = sum_left f (a.id + 1) accepted fated rises.1 once in
    let new = named_none accepted a.id (ByRecursion-weaker (λ b. a.id + 1 ≤ b.id) (λ b. b.id ≢ a.id) accepted (λ b above. λ s. omega arith) (Rises-above (a.id + 1) accepted rises.1)) in
    let values = values_cons f a accepted fated new once in
    let whole = sum_by-cons f a accepted in
    elim (cases_Bool (is_among fated a.id)) [
      | inl t ↦ let with_it : sum_by (weight_of f (a ∷ accepted)) fated ≡ f a + sum_by (weight_of f accepted) fated = rw t at values in rw t (omega arith)
      | inr t ↦
          let without : sum_by (weight_of f (a ∷ accepted)) fated ≡ 0 + sum_by (weight_of f accepted) fated = rw t at values in
          let one = sum_by-cons f a (left_by fated accepted) in
          rw t (omega arith)
    ]

-- the number of fates whose acceptance passes a test
pub count_fated : (test : Acceptance → Bool) (accepted : List Acceptance) (ids : List ℕ) → sum_by (weight_of (λ a. cond (test a) 1 0) accepted) ids ≡ count_by (passes test accepted) ids
count_fated test accepted ids = λ k. sum_by (λ id. at (named accepted id) k) ids
  where
    at : (o : Option Acceptance) → option_map_or (λ a. cond (test a) 1 0) o 0 ≡ cond {A = ℕ} (option_map_or test o false) 1 0
    at None = refl
    at (Some a) = refl

-- A fate is a packet sent or a packet dropped.
pub sum_fates : (g : ℕ → ℕ) (events : List Event) → sum_by g (fate_ids events) ≡ sum_by g (filter_map sent_of events) + sum_by g (filter_map dropped_of events)
sum_fates g [] = omega arith
sum_fates g (Accepted lane id moment flow packet ∷ events) = sum_fates g events
sum_fates g (Sent id moment ecn mark ∷ events) =
    let ih = sum_fates g events in let one = sum_by-cons g id (fate_ids events) in let other = sum_by-cons g id (filter_map sent_of events) in omega arith
sum_fates g (Dropped id moment cause ∷ events) =
    let ih = sum_fates g events in let one = sum_by-cons g id (fate_ids events) in let other = sum_by-cons g id (filter_map dropped_of events) in omega arith
sum_fates g (Closed moment ∷ events) = sum_fates g events

-- what holds of each fate's id holds of those sent, and of those dropped
pub fate_parts : (P : ℕ → Type 0) (events : List Event) → AllByRecursion P (fate_ids events) → AllByRecursion P (filter_map sent_of events) × AllByRecursion P (filter_map dropped_of events)
fate_parts P [] h = (tt, tt)
fate_parts P (Accepted lane id moment flow packet ∷ events) h = fate_parts P events h
fate_parts P (Sent id moment ecn mark ∷ events) h = let rest = fate_parts P events h.1 in ((h.0, rest.0), rest.1)
fate_parts P (Dropped id moment cause ∷ events) h = let rest = fate_parts P events h.1 in (rest.0, (h.0, rest.1))
fate_parts P (Closed moment ∷ events) h = fate_parts P events h
