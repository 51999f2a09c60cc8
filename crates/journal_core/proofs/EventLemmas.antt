-- How one event at a journal's end changes what is read off the journal.
use Rattle.std.proofs.Common.{◌≡◌, ◌≢◌, ℕ, ◌+◌, ◌<◌, ◌≤◌, false, List, [], ◌∷◌, ◌++◌, length, map, sum_by, All, ◌==◌, ◌-◌, Option, Some, None, refl, sym, ap, ◌∙◌, inl, inr, arith, append-nil}
use Rattle.std.specs.Option.{IsSomeAnd, option_or}
use Rattle.std.proofs.lemmas.List.Sorted.{IsNonDecreasingBy-push}
use Rattle.journal_core.proofs.Words.{AllByRecursion, Contains, filter_map, list_any, range_with_len, cases_lt, false≢true, or_parts, take-append-le, take_all, map-append, map-id, length_push, filter_map-append, All-push, All-weaker, length-range_with_len, get_or-range_with_len, map-range_with_len_more, find-append, list_any-append, sum_by-append, Event, Accepted, Sent, Dropped, Closed, Acceptance, moment_of, is_closed, accepted_ids, fate_ids, named, FatesFollow, AreDistinct, IsClosedForGood, IsHonest, is_barred, MomentsRise}
use Rattle.journal_core.proofs.ListLemmas.{ByRecursion-weaker}
use Rattle.journal_core.proofs.IdLemmas.{named_within, id_of}
use Rattle.journal_core.proofs.FlowShares.{AreFound}

-- the next number behind the first ones
pub range_next : (n : ℕ) → range_with_len 0 n ++ n ∷ [] ≡ range_with_len 0 (n + 1)
range_next n = sym (rw (map-id (range_with_len 0 n), map-id (range_with_len 0 (n + 1))) at (map-range_with_len_more (λ x. x) 0 n n (omega arith)))

-- an event that tells no such thing adds nothing
pub filter_map_same : {X Y : Type 0} (h : X → Option Y) (xs : List X) (x : X) → h x ≡ None → filter_map h (xs ++ x ∷ []) ≡ filter_map h xs
filter_map_same h xs x none = filter_map-append h xs (x ∷ []) ∙ ap (λ r. filter_map h xs ++ r) (let e : filter_map h (x ∷ []) ≡ [] = rw none in e) ∙ append-nil (filter_map h xs)

-- and one that does adds it at the end
pub filter_map_push : {X Y : Type 0} (h : X → Option Y) (xs : List X) (x : X) (y : Y) → h x ≡ Some y → filter_map h (xs ++ x ∷ []) ≡ filter_map h xs ++ y ∷ []
filter_map_push h xs x y some = filter_map-append h xs (x ∷ []) ∙ ap (λ r. filter_map h xs ++ r) (let e : filter_map h (x ∷ []) ≡ y ∷ [] = rw some in e)

-- one event more in a sum over what events tell
pub sum_more : {X Y : Type 0} (value : Y → ℕ) (h : X → Option Y) (xs : List X) (x : X) → sum_by value (filter_map h (xs ++ x ∷ [])) ≡ sum_by value (filter_map h xs) + sum_by value (filter_map h (x ∷ []))
sum_more value h xs x = ap (sum_by value) (filter_map-append h xs (x ∷ [])) ∙ sum_by-append value (filter_map h xs) (filter_map h (x ∷ []))

-- each id below the next one is among 0, 1, 2 and so on
range_contains : (n id : ℕ) → id < n → Contains (range_with_len 0 n) id
range_contains n id below = (id, rw length-range_with_len below, get_or-range_with_len 0 n id id below ∙ (let e : 0 + id ≡ id = omega arith in e))

-- at the point behind the last event too, each fate names an accepted id
pub follow_push : (events : List Event) (e : Event) (n : ℕ) → FatesFollow events → accepted_ids (events ++ e ∷ []) ≡ range_with_len 0 n → All (λ id. id < n) (fate_ids (events ++ e ∷ [])) → FatesFollow (events ++ e ∷ [])
follow_push events e n follow ids known point =
    elim (cases_lt (length events) point) [
      | inl past ↦
          let long : length (events ++ e ∷ []) ≤ point = omega (arith, length_push events e) in
          rw (take_all point (events ++ e ∷ []) long)
          (rw ids (All-weaker (λ id. id < n) (Contains (range_with_len 0 n)) (λ id below. range_contains n id below) (fate_ids (events ++ e ∷ [])) known))
      | inr within ↦ rw (take-append-le point events (e ∷ []) within) (follow point)
    ]

-- moments go on rising
pub moments_push : (events : List Event) (e : Event) (last : ℕ) → MomentsRise events → All (λ moment. moment ≤ last) (map moment_of events) → last ≤ moment_of e → MomentsRise (events ++ e ∷ [])
moments_push events e last rises past later =
    rw (map-append moment_of events (e ∷ []))
    (IsNonDecreasingBy-push (λ x. x) (map moment_of events) (moment_of e) rises (λ d some.
    let at = past (length (map moment_of events) - 1) d (omega arith) in omega arith))

pub past_push : (events : List Event) (e : Event) (last : ℕ) → All (λ moment. moment ≤ last) (map moment_of events) → last ≤ moment_of e → All (λ moment. moment ≤ moment_of e) (map moment_of (events ++ e ∷ []))
past_push events e last past later =
    rw (map-append moment_of events (e ∷ []))
    (All-push (λ moment. moment ≤ moment_of e) (map moment_of events) (moment_of e) (All-weaker (λ moment. moment ≤ last) (λ moment. moment ≤ moment_of e) (λ m h. omega arith) (map moment_of events) past) (omega arith))

-- an id that is not there yet goes to the end of distinct ones
pub distinct_push : (ids : List ℕ) (id : ℕ) → AreDistinct ids → AllByRecursion (λ x. id ≢ x) ids → AreDistinct (ids ++ id ∷ [])
distinct_push [] id distinct new = ((λ k d below. absurd (omega arith)), tt)
distinct_push (x ∷ ids) id distinct new =
    (All-push (λ other. other ≢ x) ids id distinct.0 new.0, distinct_push ids id distinct.1 new.1)

-- an event that may stand behind a Closed
pub closed_push_free : (events : List Event) (e : Event) → is_barred e ≡ false → IsClosedForGood events → IsClosedForGood (events ++ e ∷ [])
closed_push_free [] e free law = ((λ _. refl), tt)
closed_push_free (x ∷ events) e free law =
    ((λ t. list_any-append is_barred events (e ∷ []) ∙ rw (law.0 t, free)), closed_push_free events e free law.1)

-- any event where there was no Closed
pub closed_push_open : (events : List Event) (e : Event) → list_any is_closed events ≡ false → IsClosedForGood (events ++ e ∷ [])
closed_push_open [] e open' = ((λ _. refl), tt)
closed_push_open (x ∷ events) e open' =
    let parts = or_parts (is_closed x) (list_any is_closed events) open' in
    ((λ t. absurd (false≢true (sym parts.0 ∙ t))), closed_push_open events e parts.1)

-- a found acceptance stays found
found_stays : (o other : Option Acceptance) (P : Acceptance → Type 0) → IsSomeAnd o P → IsSomeAnd (option_or o other) P
found_stays None other P h = absurd h
found_stays (Some a) other P h = h

honest_stays : (accepted more : List Acceptance) (e : Event) → IsHonest accepted e → IsHonest (accepted ++ more) e
honest_stays accepted more (Accepted lane id moment flow packet) h = tt
honest_stays accepted more (Sent id moment ecn mark) h = rw (find-append (λ (b : Acceptance). b.id == id) accepted more) (found_stays (named accepted id) (named more id) _ h)
honest_stays accepted more (Dropped id moment cause) h = tt
honest_stays accepted more (Closed moment) h = tt

-- marks stay honest when packets are accepted
pub all_honest_stay : (accepted more : List Acceptance) (events : List Event) → All (IsHonest accepted) events → All (IsHonest (accepted ++ more)) events
all_honest_stay accepted more events h = All-weaker (IsHonest accepted) (IsHonest (accepted ++ more)) (honest_stays accepted more) events h

-- each id below the next one is found
pub all_found : (accepted : List Acceptance) (n : ℕ) (ids : List ℕ) → map id_of accepted ≡ range_with_len 0 n → AllByRecursion (λ id. id < n) ids → AreFound accepted ids
all_found accepted n ids e h = ByRecursion-weaker (λ id. id < n) (λ id. (a : Acceptance) × (named accepted id ≡ Some a)) ids (λ id below. named_within n accepted id e below) h
