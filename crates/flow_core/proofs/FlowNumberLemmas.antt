-- Lists of flow numbers in which no number stands twice, and of which each flow has a mark.
use Rattle.std.proofs.Common.{◌≡◌, ◌≢◌, ℕ, ◌+◌, ◌<◌, ◌≤◌, suc, Bool, false, true, eqb, List, [], ◌∷◌, ◌++◌, length, length-append, get_or, set, slice_get, IfSome, Contains, refl, sym, ◌∙◌, ⊎_elim, inl, inr, append_assoc, arith}
use Rattle.std.specs.List.{AllByRecursion, IsDistinct}
use Rattle.std.specs.List.Sorted.{IsPermutation}
use Rattle.std.proofs.lemmas.Bool.{cases_eq, eq-eqb, ne_eqb, eqb-true, eqb-false}
use Rattle.std.proofs.lemmas.List.{get_or_default, get_or-set_other, get_or-set_same, length-set}
use Rattle.std.proofs.lemmas.List.Elements.{All-cons, All-contains, All-from_recursion, Contains-append_right, recursion_from_All}
use Rattle.std.proofs.lemmas.List.Sorted.{All-permutation, Contains-permutation, IsPermutation-append_left, IsPermutation-append_right, IsPermutation-middle, IsPermutation-sym, IsPermutation-to_front}
use Rattle.std.proofs.lemmas.Map.Keys.{IsDistinct-IsPermutation}
use Rattle.std.proofs.lemmas.Map.Steps.{length-le_from_distinct_below}
use Rattle.std.proofs.lemmas.Map.Views.{Contains-from_any}
use Rattle.slab.proofs.SlabLemmas.{Contains-cons, Contains-cons_cases}
use Rattle.flow_core.specs.FlowLists.{AreDistinct}
use Rattle.flow_core.specs.Listed.{AreFlows, AreMarked}

eqb_flips : (a b : ℕ) → eqb a b ≡ eqb b a
eqb_flips a b =
    ⊎_elim
    (λ (e : a ≡ b). eq-eqb a b e ∙ sym (eq-eqb b a (sym e)))
    (λ (ne : a ≢ b). ne_eqb a b ne ∙ sym (ne_eqb b a (λ (e : b ≡ a). ne (sym e))))
    (cases_eq a b)

to_tests : (n : ℕ) (ns : List ℕ) → AllByRecursion (λ other. other ≢ n) ns → AllByRecursion (λ other. eqb n other ≡ false) ns
to_tests n [] h = tt
to_tests n (m ∷ ns) h = (ne_eqb n m (λ (e : n ≡ m). h.0 (sym e)), to_tests n ns h.1)

from_tests : (n : ℕ) (ns : List ℕ) → AllByRecursion (λ other. eqb n other ≡ false) ns → AllByRecursion (λ other. other ≢ n) ns
from_tests n [] h = tt
from_tests n (m ∷ ns) h = (λ (e : m ≡ n). eqb-false n m h.0 (sym e), from_tests n ns h.1)

to_IsDistinct : (ns : List ℕ) → AreDistinct ns → IsDistinct eqb ns
unfolding IsDistinct
to_IsDistinct [] h = tt
to_IsDistinct (n ∷ ns) h = (to_tests n ns (recursion_from_All (λ other. other ≢ n) ns h.0), to_IsDistinct ns h.1)

from_IsDistinct : (ns : List ℕ) → IsDistinct eqb ns → AreDistinct ns
unfolding IsDistinct
from_IsDistinct [] h = tt
from_IsDistinct (n ∷ ns) h = (All-from_recursion (λ other. other ≢ n) ns (from_tests n ns h.0), from_IsDistinct ns h.1)

-- in another order they are distinct too
distinct_permuted : (xs ys : List ℕ) → IsPermutation xs ys → AreDistinct xs → AreDistinct ys
distinct_permuted xs ys moved h = from_IsDistinct ys (IsDistinct-IsPermutation eqb eqb_flips xs ys moved (to_IsDistinct xs h))

-- there are no more of them than flows
pub length-le_flows : (n : ℕ) (listed : List ℕ) → AreFlows n listed → length listed ≤ n
length-le_flows n listed are =
    length-le_from_distinct_below listed n (to_IsDistinct listed are.once)
    (λ q h. All-contains (λ (flow : ℕ). flow < n) listed q are.within (Contains-from_any eqb-true q listed h))

-- in another order
permuted : (n : ℕ) (xs ys : List ℕ) → IsPermutation xs ys → AreFlows n xs → AreFlows n ys
permuted n xs ys moved are = record {
  within = All-permutation (λ (flow : ℕ). flow < n) xs ys moved are.within;
  once = distinct_permuted xs ys moved are.once;
}

-- the others where the first one leaves
rest_of : (n flow : ℕ) (listed : List ℕ) → AreFlows n (flow ∷ listed) → AreFlows n listed
rest_of n flow listed are = record {
  within = λ k d h. are.within (suc k) d (omega arith);
  once = are.once.1;
}

-- one more flow, which isn't among them
one_more : (n flow : ℕ) (listed : List ℕ) → flow < n → ¬ Contains listed flow → AreFlows n listed → AreFlows n (flow ∷ listed)
one_more n flow listed within absent are = record {
  within = All-cons (λ (f : ℕ). f < n) flow listed within are.within;
  once = (λ k d h. λ (e : get_or listed k d ≡ flow). absent (k, h, get_or_default listed k flow d h ∙ e), are.once);
}

-- no more flows are marked than there are
pub few_listed : (marks : List Bool) (new old : List ℕ) → AreMarked marks (new ++ old) → length new + length old ≤ length marks
few_listed marks new old are = omega (arith, length-le_flows (length marks) (new ++ old) are.flows, length-append new old)

-- and fewer, where one isn't among them
pub fewer_listed : (marks : List Bool) (flow : ℕ) (new old : List ℕ) → flow < length marks → ¬ Contains (new ++ old) flow → AreMarked marks (new ++ old) → length new + length old < length marks
fewer_listed marks flow new old within absent are =
    omega (arith, length-le_flows (length marks) (flow ∷ (new ++ old)) (one_more (length marks) flow (new ++ old) within absent are.flows), length-append new old)

-- the marked flows in another order
pub marked_permuted : (marks : List Bool) (xs ys : List ℕ) → IsPermutation xs ys → AreMarked marks xs → AreMarked marks ys
marked_permuted marks xs ys moved are = record {
  flows = permuted (length marks) xs ys moved are.flows;
  marked = λ flow. (
    λ mark. Contains-permutation xs ys flow moved ((are.marked flow).0 mark),
    λ has. (are.marked flow).1 (Contains-permutation ys xs flow (IsPermutation-sym xs ys moved) has),
  );
}

-- a flow that is in no list comes to the end of the new ones
pub add_new : (marks : List Bool) (flow : ℕ) (new old : List ℕ) → flow < length marks → ¬ Contains (new ++ old) flow → AreMarked marks (new ++ old)
    → AreMarked (set marks flow true) ((new ++ flow ∷ []) ++ old)
add_new marks flow new old within absent are =
    marked_permuted (set marks flow true) (flow ∷ (new ++ old)) ((new ++ flow ∷ []) ++ old)
    (IsPermutation-sym ((new ++ flow ∷ []) ++ old) (flow ∷ (new ++ old)) (IsPermutation-append_left old (new ++ flow ∷ []) (flow ∷ new) (IsPermutation-to_front new flow)))
    (record {
      flows = rw (length-set marks flow true) (one_more (length marks) flow (new ++ old) within absent are.flows);
      marked = λ other. elim (cases_eq other flow) [
        | inl same ↦ (λ _. (0, omega arith, sym same), λ _. rw same (get_or-set_same marks flow true false within))
        | inr differs ↦
            let read = get_or-set_other marks flow other true false differs in (
              λ mark. Contains-cons flow other (new ++ old) ((are.marked other).0 (sym read ∙ mark)),
              λ has. elim (Contains-cons_cases flow other (new ++ old) has) [
                | inl same ↦ absurd (differs (sym same))
                | inr there ↦ read ∙ (are.marked other).1 there
              ],
            )
      ];
    })

-- the first of the new ones becomes the last of the old ones
pub new_to_old : (marks : List Bool) (flow : ℕ) (new old : List ℕ) → AreMarked marks (flow ∷ new ++ old) → AreMarked marks (new ++ (old ++ flow ∷ []))
new_to_old marks flow new old are =
    marked_permuted marks (flow ∷ (new ++ old)) (new ++ (old ++ flow ∷ []))
    (IsPermutation-sym (new ++ (old ++ flow ∷ [])) (flow ∷ (new ++ old)) (rw (← append_assoc new old (flow ∷ [])) (IsPermutation-to_front (new ++ old) flow)))
    are

-- the first of the old ones becomes the last of them
pub rotate_old : (marks : List Bool) (flow : ℕ) (new old : List ℕ) → AreMarked marks (new ++ flow ∷ old) → AreMarked marks (new ++ (old ++ flow ∷ []))
rotate_old marks flow new old are =
    marked_permuted marks (new ++ flow ∷ old) (new ++ (old ++ flow ∷ []))
    (IsPermutation-append_right new (flow ∷ old) (old ++ flow ∷ []) (IsPermutation-sym (old ++ flow ∷ []) (flow ∷ old) (IsPermutation-to_front old flow)))
    are

-- the first of the old ones is a flow
pub head_within : (marks : List Bool) (new old : List ℕ) → AreMarked marks (new ++ old) → IfSome (slice_get old 0) (λ flow. flow < length marks)
head_within marks new [] are = tt
head_within marks new (flow ∷ old) are =
    All-contains (λ (f : ℕ). f < length marks) (new ++ flow ∷ old) flow are.flows.within (Contains-append_right new (flow ∷ old) flow (0, omega arith, refl))

-- it leaves
pub leave_old : (marks : List Bool) (flow : ℕ) (new old : List ℕ) → AreMarked marks (new ++ flow ∷ old) → AreMarked (set marks flow false) (new ++ old)
leave_old marks flow new old are =
    let front = marked_permuted marks (new ++ flow ∷ old) (flow ∷ (new ++ old)) (IsPermutation-middle new flow old) are in
    record {
      flows = rw (length-set marks flow false) (rest_of (length marks) flow (new ++ old) front.flows);
      marked = λ other. elim (cases_eq other flow) [
        | inl same ↦
            let written = rw (← same) at (get_or-set_same marks flow false false (head_within marks new (flow ∷ old) are)) in (
              λ mark. absurd cc,
              λ has. absurd (All-contains (λ (o : ℕ). o ≢ flow) (new ++ old) other front.flows.once.0 has same),
            )
        | inr differs ↦
            let read = get_or-set_other marks flow other false false differs in (
              λ mark. elim (Contains-cons_cases flow other (new ++ old) ((front.marked other).0 (sym read ∙ mark))) [
                | inl same ↦ absurd (differs (sym same))
                | inr there ↦ there
              ],
              λ has. read ∙ (front.marked other).1 (Contains-cons flow other (new ++ old) has),
            )
      ];
    }
