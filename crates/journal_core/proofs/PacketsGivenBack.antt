-- Each accepted packet was sent, was lost or waits, and that once.
use Rattle.std.proofs.Common.{◌≡◌, ◌≢◌, ℕ, ◌+◌, ◌<◌, ◌≤◌, true, false, not, All, List, [], ◌∷◌, ◌++◌, map, filter, get_or, length, Option, Some, None, option_map, refl, sym, ap, ◌∙◌, inl, inr, arith}
use Rattle.std.specs.List.{cons_option, flat_map}
use Rattle.std.specs.List.Sorted.{IsPermutation}
use Rattle.std.proofs.lemmas.List.Elements.{All-filter}
use Rattle.std.proofs.lemmas.List.Sorted.{IsPermutation-append, IsPermutation-cons, IsPermutation-filter_both, IsPermutation-map, IsPermutation-middle, IsPermutation-refl, IsPermutation-sym, IsPermutation-trans}
use Rattle.journal_core.specs.Losses.{AreGivenBackOnce, accepted_packets, lost_packets, packets_named, sent_packets, waited_as}
use Rattle.journal_core.proofs.Words.{filter_map, cases_Bool, cases_eq, eq-eqb, ne_eqb, map-append, recursion_from_All, FiveTuple, Waiting, Event, Accepted, Sent, Dropped, Closed, Acceptance, waiting_of, acceptances, fate_ids, is_among, named, without_fate, AreDistinct, JournalLaws, WaitWithoutFate, sent_of, dropped_of}
use Rattle.journal_core.proofs.IdLemmas.{Rises, Rises-above, Rises-range, is_among_none, named_none}
use Rattle.journal_core.proofs.ListLemmas.{ByRecursion-weaker}
use Rattle.journal_core.proofs.WaitingPackets.{queues_hold}

-- one more at the front, where there is one
cons_more : {X : Type 0} (o : Option X) (a : X) (xs ys : List X) → IsPermutation (a ∷ xs) ys → IsPermutation (a ∷ cons_option o xs) (cons_option o ys)
cons_more None a xs ys h = h
cons_more (Some b) a xs ys h =
    IsPermutation-trans (a ∷ b ∷ xs) (b ∷ a ∷ xs) (b ∷ ys) (IsPermutation-sym (b ∷ a ∷ xs) (a ∷ b ∷ xs) (IsPermutation-middle (b ∷ []) a xs)) (IsPermutation-cons b (a ∷ xs) ys h)

-- With one acceptance more at the front, ids that don't name it name what they named, and distinct ids among which it is
-- name it too.
named_others : (a : Acceptance) (accepted : List Acceptance) (ids : List ℕ) → is_among ids a.id ≡ false → filter_map (named (a ∷ accepted)) ids ≡ filter_map (named accepted) ids
named_others a accepted [] other = refl
named_others a accepted (id ∷ ids) other =
    elim (cases_eq id a.id) [
      | inl same ↦ let e : true ≡ false = rw (eq-eqb id a.id same) at other in absurd cc
      | inr differs ↦
          let rest = named_others a accepted ids (rw (ne_eqb id a.id differs) at other) in
          let here : named (a ∷ accepted) id ≡ named accepted id = rw (ne_eqb a.id id (λ s. differs (sym s))) in
          λ i. cons_option (here i) (rest i)
    ]

named_too : (a : Acceptance) (accepted : List Acceptance) (ids : List ℕ) → named accepted a.id ≡ None → AreDistinct ids → is_among ids a.id ≡ true
    → IsPermutation (a ∷ filter_map (named accepted) ids) (filter_map (named (a ∷ accepted)) ids)
named_too a accepted [] new once is = absurd cc
named_too a accepted (id ∷ ids) new once is =
    elim (cases_eq a.id id) [
      | inl same ↦
          let its : named (a ∷ accepted) id ≡ Some a = rw (eq-eqb a.id id same) in
          let none : named accepted id ≡ None = ap (named accepted) (sym same) ∙ new in
          let rest = named_others a accepted ids (ap (is_among ids) same ∙ is_among_none ids id (recursion_from_All (λ other. other ≢ id) ids once.0)) in
          rw (its, none, rest) (IsPermutation-refl (a ∷ filter_map (named accepted) ids))
      | inr other ↦
          let its : named (a ∷ accepted) id ≡ named accepted id = rw (ne_eqb a.id id other) in
          let rest = named_too a accepted ids new once.1 (rw (ne_eqb id a.id (λ s. other (sym s))) at is) in
          rw its (cons_more (named accepted id) a (filter_map (named accepted) ids) (filter_map (named (a ∷ accepted)) ids) rest)
    ]

-- Those whose ids are among distinct ones are those that the ids name.
fated_named : (k : ℕ) (accepted : List Acceptance) (ids : List ℕ) → Rises k accepted → AreDistinct ids → IsPermutation (filter (λ a. is_among ids a.id) accepted) (filter_map (named accepted) ids)
fated_named k [] ids rises once = rw (nothing ids) (IsPermutation-refl [])
  where
    nothing : (ids : List ℕ) → filter_map (named []) ids ≡ []
    nothing [] = refl
    nothing (id ∷ ids) = nothing ids
fated_named k (a ∷ accepted) ids rises once =
    let rest = fated_named (a.id + 1) accepted ids rises.1 once in
    let new = named_none accepted a.id (ByRecursion-weaker (λ b. a.id + 1 ≤ b.id) (λ b. b.id ≢ a.id) accepted (λ b above. λ s. omega arith) (Rises-above (a.id + 1) accepted rises.1)) in
    elim (cases_Bool (is_among ids a.id)) [
      | inl t ↦
          rw t
          (IsPermutation-trans (a ∷ filter (λ a. is_among ids a.id) accepted) (a ∷ filter_map (named accepted) ids) (filter_map (named (a ∷ accepted)) ids)
          (IsPermutation-cons a (filter (λ a. is_among ids a.id) accepted) (filter_map (named accepted) ids) rest) (named_too a accepted ids new once t))
      | inr t ↦ rw (t, named_others a accepted ids t) rest
    ]

-- what is named, as it waited
map_named : (accepted : List Acceptance) (ids : List ℕ) → map waiting_of (filter_map (named accepted) ids) ≡ packets_named accepted ids
map_named accepted [] = refl
map_named accepted (id ∷ ids) = at (named accepted id) ∙ ap (λ l. cons_option (waited_as accepted id) l) (map_named accepted ids)
  where
    at : (o : Option Acceptance) → map waiting_of (cons_option o (filter_map (named accepted) ids)) ≡ cons_option (option_map waiting_of o) (map waiting_of (filter_map (named accepted) ids))
    at None = refl
    at (Some a) = refl

-- A fate is a packet sent or a packet dropped.
fates_parted : {X : Type 0} (f : ℕ → Option X) (events : List Event) → IsPermutation (filter_map f (fate_ids events)) (filter_map f (filter_map sent_of events) ++ filter_map f (filter_map dropped_of events))
fates_parted f [] = IsPermutation-refl []
fates_parted f (Accepted lane id moment flow packet ∷ events) = fates_parted f events
fates_parted f (Sent id moment ecn mark ∷ events) = at (f id) (fates_parted f events)
  where
    at : (o : Option _) → IsPermutation (filter_map f (fate_ids events)) (filter_map f (filter_map sent_of events) ++ filter_map f (filter_map dropped_of events))
        → IsPermutation (cons_option o (filter_map f (fate_ids events))) (cons_option o (filter_map f (filter_map sent_of events)) ++ filter_map f (filter_map dropped_of events))
    at None h = h
    at (Some x) h = IsPermutation-cons x _ _ h
fates_parted f (Dropped id moment cause ∷ events) = at (f id) (fates_parted f events)
  where
    at : (o : Option _) → IsPermutation (filter_map f (fate_ids events)) (filter_map f (filter_map sent_of events) ++ filter_map f (filter_map dropped_of events))
        → IsPermutation (cons_option o (filter_map f (fate_ids events))) (filter_map f (filter_map sent_of events) ++ cons_option o (filter_map f (filter_map dropped_of events)))
    at None h = h
    at (Some x) h =
        IsPermutation-trans _ (x ∷ (filter_map f (filter_map sent_of events) ++ filter_map f (filter_map dropped_of events))) _ (IsPermutation-cons x _ _ h)
        (IsPermutation-sym _ _ (IsPermutation-middle (filter_map f (filter_map sent_of events)) x (filter_map f (filter_map dropped_of events))))
fates_parted f (Closed moment ∷ events) = fates_parted f events

-- So it is where the journal has its laws and the queues hold what has no fate, one for each flow that a packet may have.
pub given_back_once : (flow_of : FiveTuple → ℕ) (queues : List (List Waiting)) (events : List Event) → ((tuple : FiveTuple) → flow_of tuple < length queues)
    → JournalLaws flow_of events → WaitWithoutFate (λ flow. get_or queues flow []) events → AreGivenBackOnce queues (lost_packets events) events
given_back_once flow_of queues events below laws waiting =
    let accepted = acceptances events in
    let fated = fate_ids events in
    let rises = Rises-range 0 (length accepted) accepted laws.ids_in_order in
    let is_fated = λ (a : Acceptance). is_among fated a.id in
    let Among = λ (a : Acceptance). (0 ≤ a.flow) × (a.flow < 0 + length queues) in
    let among : All Among accepted = λ i a under. let named = laws.flows_are_named i a under in let low = below ((get_or accepted i a).packet.tuple) in omega arith in
    let gone : IsPermutation (map waiting_of (filter is_fated accepted)) (sent_packets events ++ lost_packets events) =
    IsPermutation-trans _ _ _ (IsPermutation-map waiting_of (filter is_fated accepted) (filter_map (named accepted) fated) (fated_named 0 accepted fated rises laws.one_fate))
    (rw (map_named accepted fated) (fates_parted (waited_as accepted) events)) in
    let left : IsPermutation (map waiting_of (without_fate events)) (flat_map (λ q. q) queues) =
    queues_hold 0 queues (without_fate events) (λ i under. rw (let e : 0 + i ≡ i = omega arith in e) (waiting i))
    (recursion_from_All Among (without_fate events) (All-filter (λ a. not (is_fated a)) Among accepted among)) in
    IsPermutation-trans (accepted_packets events) (map waiting_of (filter is_fated accepted ++ without_fate events)) (sent_packets events ++ lost_packets events ++ flat_map (λ q. q) queues)
    (IsPermutation-map waiting_of accepted (filter is_fated accepted ++ without_fate events) (IsPermutation-filter_both is_fated (λ a. not (is_fated a)) (λ _. refl) accepted))
    (rw (map-append waiting_of (filter is_fated accepted) (without_fate events)) (IsPermutation-append _ _ _ _ gone left))
