-- Journals in which ids are given in order and each fate names an id that was given before it.
use Rattle.std.proofs.Common.{◌≡◌, ◌≢◌, ℕ, ◌+◌, ◌<◌, All, List, [], ◌∷◌, ◌++◌, map, Some, None, refl, ap, sym, ◌∙◌, arith, rules}
use Rattle.std.specs.List.{AllByRecursion, range_with_len}
use Rattle.std.proofs.lemmas.List.{map-append}
use Rattle.std.proofs.lemmas.List.Elements.{All-from_recursion, All-push, All-weaker, recursion_from_All}
use Rattle.packet_core.specs.Packets.{PacketParts}
use Rattle.journal_core.specs.declared.event.Event.{Event}
use Rattle.journal_core.specs.declared.event.Event.TheVariants.{Accepted, Closed}
use Rattle.journal_core.specs.Happened.{Acceptance, acceptance_of, accepted_ids, acceptances, fate_ids, fate_of}
use Rattle.journal_core.specs.JournalLaws.{AreDistinct, FatesFollow, IdsInOrder}
use Rattle.journal_core.proofs.EventLemmas.{filter_map_push, filter_map_same, follow_push, range_next}
use Rattle.journal_core.proofs.IdLemmas.{id_of, many_ids}
use Rattle.journal_core.proofs.ListLemmas.{ByRecursion-append, ByRecursion-parts, ByRecursion-weaker}

-- so many ids were given, 0, 1, 2 and so on, and each fate names one that was given before it
pub record IsInOrder (n : ℕ) (events : List Event) : Type 0 where
  pub ids : accepted_ids events ≡ range_with_len 0 n
  pub follow : FatesFollow events
  pub fated : All (λ id. id < n) (fate_ids events)

-- before the first event
pub none_in_order : IsInOrder 0 []
none_in_order = record { ids = refl; follow = search rules; fated = search rules }

-- the next id is given
pub accept_in_order : (events : List Event) (n lane moment flow : ℕ) (packet : PacketParts) → IsInOrder n events → IsInOrder (n + 1) (events ++ Accepted lane n moment flow packet ∷ [])
accept_in_order events n lane moment flow packet h =
    let e : Event = Accepted lane n moment flow packet in
    let a : Acceptance = record { id = n; moment = moment; lane = lane; flow = flow; packet = packet } in
    let accepted : acceptances (events ++ e ∷ []) ≡ acceptances events ++ a ∷ [] = filter_map_push acceptance_of events e a refl in
    let same : fate_ids (events ++ e ∷ []) ≡ fate_ids events = filter_map_same fate_of events e refl in
    let ids : accepted_ids (events ++ e ∷ []) ≡ range_with_len 0 (n + 1) =
    ap (map id_of) accepted ∙ map-append id_of (acceptances events) (a ∷ []) ∙ ap (λ (r : List ℕ). r ++ n ∷ []) h.ids ∙ range_next n in
    let fated : All (λ id. id < n + 1) (fate_ids (events ++ e ∷ [])) = rw same (All-weaker (λ id. id < n) (λ id. id < n + 1) (λ id low. omega arith) (fate_ids events) h.fated) in
    record { ids = ids; follow = follow_push events e (n + 1) h.follow ids fated; fated = fated }

-- a packet that came has its fate
pub fate_in_order : (events : List Event) (e : Event) (n id : ℕ) → acceptance_of e ≡ None → fate_of e ≡ Some id → id < n → IsInOrder n events → IsInOrder n (events ++ e ∷ [])
fate_in_order events e n id none fate below h =
    let ids : accepted_ids (events ++ e ∷ []) ≡ range_with_len 0 n = ap (map id_of) (filter_map_same acceptance_of events e none) ∙ h.ids in
    let fated : All (λ x. x < n) (fate_ids (events ++ e ∷ [])) = rw (filter_map_push fate_of events e id fate) (All-push (λ x. x < n) (fate_ids events) id h.fated below) in
    record { ids = ids; follow = follow_push events e n h.follow ids fated; fated = fated }

-- there is a close
pub close_in_order : (events : List Event) (n moment : ℕ) → IsInOrder n events → IsInOrder n (events ++ Closed moment ∷ [])
close_in_order events n moment h =
    let e : Event = Closed moment in
    let ids : accepted_ids (events ++ e ∷ []) ≡ range_with_len 0 n = ap (map id_of) (filter_map_same acceptance_of events e refl) ∙ h.ids in
    let fated : All (λ x. x < n) (fate_ids (events ++ e ∷ [])) = rw (filter_map_same fate_of events e refl) h.fated in
    record { ids = ids; follow = follow_push events e n h.follow ids fated; fated = fated }

-- the law of the ids, which doesn't name their number
pub ids_in_order : (n : ℕ) (events : List Event) → accepted_ids events ≡ range_with_len 0 n → IdsInOrder events
ids_in_order n events ids = ids ∙ ap (range_with_len 0) (sym (many_ids n (acceptances events) ids))

-- a number above distinct ones goes anywhere among them
pub distinct_more : (n : ℕ) (before behind : List ℕ) → AllByRecursion (λ id. id < n) (before ++ behind) → AreDistinct (before ++ behind) → AreDistinct (before ++ n ∷ behind)
distinct_more n [] behind below once = (All-from_recursion (λ other. other ≢ n) behind (ByRecursion-weaker (λ id. id < n) (λ other. other ≢ n) behind (λ id low same. omega arith) below), once)
distinct_more n (y ∷ before) behind below once =
    let parts = ByRecursion-parts (λ other. other ≢ y) before behind (recursion_from_All (λ other. other ≢ y) (before ++ behind) once.0) in
    let low = below.0 in
    let apart : n ≢ y = λ same. omega arith in
    (All-from_recursion (λ other. other ≢ y) (before ++ n ∷ behind) (ByRecursion-append (λ other. other ≢ y) before (n ∷ behind) parts.0 (apart, parts.1)), distinct_more n before behind below.1 once.1)

-- the first of distinct numbers are distinct
pub distinct_front : (xs ys : List ℕ) → AreDistinct (xs ++ ys) → AreDistinct xs
distinct_front [] ys once = tt
distinct_front (x ∷ xs) ys once =
    let parts = ByRecursion-parts (λ other. other ≢ x) xs ys (recursion_from_All (λ other. other ≢ x) (xs ++ ys) once.0) in
    (All-from_recursion (λ other. other ≢ x) xs parts.0, distinct_front xs ys once.1)
