-- What waits is what has no fate: the queues hold the packets of the journal that have none.
use Rattle.std.proofs.Common.{◌≡◌, ◌≢◌, ℕ, suc, ◌+◌, ◌<◌, ◌≤◌, Bool, true, false, not, List, [], ◌∷◌, ◌++◌, map, filter, eqb, get_or, length, sum_by, refl, sym, ap, subst, ◌∙◌, arith}
use Rattle.std.specs.List.{flat_map}
use Rattle.std.specs.List.Sorted.{IsPermutation}
use Rattle.std.proofs.lemmas.List.Sorted.{IsPermutation-append_right, IsPermutation-filter_both, IsPermutation-map, IsPermutation-refl, IsPermutation-trans, sum_by-IsPermutation}
use Rattle.journal_core.proofs.Words.{nat_tests, AllByRecursion, eq-eqb, map-append, sum_by-append, sum_by-cons, Waiting, Acceptance, waiting_of}
use Rattle.journal_core.proofs.ListLemmas.{ByRecursion-both, ByRecursion-filter, ByRecursion-passes, ByRecursion-weaker, ByRecursion-all, filter_within}

sum_by-map : {X Y : Type 0} (f : X → Y) (h : Y → ℕ) (xs : List X) → sum_by h (map f xs) ≡ sum_by (λ x. h (f x)) xs
sum_by-map f h [] = refl
sum_by-map f h (x ∷ xs) = omega (arith, sum_by-map f h xs, sum_by-cons h (f x) (map f xs), sum_by-cons (λ x. h (f x)) x xs)

-- the acceptances into that flow
abbrev into : ℕ → Acceptance → Bool
into flow a = eqb a.flow flow

not_into : (k : ℕ) (a : Acceptance) → not (into k a) ≡ true → a.flow ≢ k
not_into k a out same = let e : false ≡ true = rw (eq-eqb a.flow k same) at out in cc

-- Queues of flows from k on that hold the packets of these acceptances hold them all, and nothing else.
pub queues_hold : (k : ℕ) (queues : List (List Waiting)) (accepted : List Acceptance)
    → ((i : ℕ) → i < length queues → get_or queues i [] ≡ map waiting_of (filter (into (k + i)) accepted))
    → AllByRecursion (λ a. (k ≤ a.flow) × (a.flow < k + length queues)) accepted
    → IsPermutation (map waiting_of accepted) (flat_map (λ q. q) queues)
queues_hold k [] [] hold among = IsPermutation-refl []
queues_hold k [] (a ∷ accepted) hold among = let b = among.0 in absurd (omega arith)
queues_hold k (q ∷ queues) accepted hold among =
    let here : q ≡ map waiting_of (filter (into (k + 0)) accepted) = hold 0 (omega arith) in
    let k_is : k + 0 ≡ k = omega arith in
    let others = filter (λ a. not (into k a)) accepted in
    let hold' : (i : ℕ) → i < length queues → get_or queues i [] ≡ map waiting_of (filter (into (suc k + i)) others) = λ i below. hold (suc i) (omega arith) ∙ ap (λ n. map waiting_of (filter (into n) accepted)) (let e : k + suc i ≡ suc k + i = omega arith in e) ∙ ap (λ l. map waiting_of l) (behind i) in
    let among' : AllByRecursion (λ a. (suc k ≤ a.flow) × (a.flow < suc k + length queues)) others =
    ByRecursion-weaker (λ a. ((k ≤ a.flow) × (a.flow < k + length (q ∷ queues))) × (not (into k a) ≡ true)) (λ a. (suc k ≤ a.flow) × (a.flow < suc k + length queues)) others
    (λ a b. let differs = not_into k a b.1 in let low = b.0.0 in let high = b.0.1 in omega arith)
    (ByRecursion-both (λ a. (k ≤ a.flow) × (a.flow < k + length (q ∷ queues))) (λ a. not (into k a) ≡ true) others
    (ByRecursion-filter (λ a. (k ≤ a.flow) × (a.flow < k + length (q ∷ queues))) (λ a. not (into k a)) accepted among) (ByRecursion-passes (λ a. not (into k a)) accepted)) in
    let first : map waiting_of (filter (into k) accepted) ≡ q = sym (here ∙ ap (λ n. map waiting_of (filter (into n) accepted)) k_is) in
    let parts = IsPermutation-map waiting_of accepted (filter (into k) accepted ++ others) (IsPermutation-filter_both (into k) (λ a. not (into k a)) (λ _. refl) accepted) in
    let split : map waiting_of (filter (into k) accepted ++ others) ≡ q ++ map waiting_of others = map-append waiting_of (filter (into k) accepted) others ∙ ap (λ l. l ++ map waiting_of others) first in
    IsPermutation-trans (map waiting_of accepted) (q ++ map waiting_of others) (flat_map (λ q. q) (q ∷ queues)) (subst (IsPermutation (map waiting_of accepted)) split parts)
    (IsPermutation-append_right q (map waiting_of others) (flat_map (λ q. q) queues) (queues_hold (suc k) queues others hold' among'))
  where
    implies : (i : ℕ) (a : Acceptance) → into (suc k + i) a ≡ true → not (into k a) ≡ true
    implies i a is = grind (arith, nat_tests, is)

    behind : (i : ℕ) → filter (into (suc k + i)) accepted ≡ filter (into (suc k + i)) (filter (λ a. not (into k a)) accepted)
    behind i = filter_within (into (suc k + i)) (λ a. not (into k a)) accepted (ByRecursion-all (λ a. into (suc k + i) a ≡ true → not (into k a) ≡ true) accepted (implies i))

sum_by-flat : {X : Type 0} (h : X → ℕ) (xss : List (List X)) → sum_by h (flat_map (λ q. q) xss) ≡ sum_by (λ q. sum_by h q) xss
sum_by-flat h [] = refl
sum_by-flat h (xs ∷ xss) = omega (arith, sum_by-flat h xss, sum_by-append h xs (flat_map (λ q. q) xss), sum_by-cons (λ q. sum_by h q) xs xss)

-- So they hold as much.
pub by_queues : (h : Waiting → ℕ) (k : ℕ) (queues : List (List Waiting)) (accepted : List Acceptance)
    → ((i : ℕ) → i < length queues → get_or queues i [] ≡ map waiting_of (filter (into (k + i)) accepted))
    → AllByRecursion (λ a. (k ≤ a.flow) × (a.flow < k + length queues)) accepted
    → sum_by (λ q. sum_by h q) queues ≡ sum_by (λ a. h (waiting_of a)) accepted
by_queues h k queues accepted hold among =
    sym (sum_by-flat h queues)
    ∙ sum_by-IsPermutation h (map waiting_of accepted) (flat_map (λ q. q) queues) (queues_hold k queues accepted hold among)
    ∙ sum_by-map waiting_of h accepted
