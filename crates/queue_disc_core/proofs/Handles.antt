-- What packets are known by.
use Rattle.std.proofs.Common.{◌≡◌, ℕ, ◌+◌, ◌<◌, List, [], ◌∷◌, length, map, get_or, Option, Some, None, option_map, IsSomeAnd, refl, ap, sym, subst, ◌∙◌, inl, inr, arith, eq-eqb, ne_eqb}
use Rattle.std.specs.Prelude.{slice_get}
use Rattle.std.specs.List.{AllByRecursion, cons_option, range_with_len}
use Rattle.std.proofs.lemmas.Bool.{cases_eq}
use Rattle.std.proofs.lemmas.List.Elements.{All-from_recursion}
use Rattle.std.proofs.lemmas.Option.{get_or_from_slice_get, slice_get-map, slice_get_within}
use Rattle.packet_core.specs.declared.packet.Waiting.{Waiting}
use Rattle.journal_core.specs.declared.event.Event.{Event}
use Rattle.journal_core.specs.Happened.{Acceptance, acceptances, named, waiting_of}
use Rattle.journal_core.specs.JournalLaws.{IdsInOrder}
use Rattle.journal_core.specs.Losses.{lost_packets, packets_named}
use Rattle.journal_core.specs.Statistics.{dropped_of}
use Rattle.journal_core.proofs.IdLemmas.{id_of, ids_below}
use Rattle.std.specs.List.{filter_map}
use Rattle.queue_disc_core.specs.declared.answers.Dropped.{Dropped}
use Rattle.queue_disc_core.specs.Drops.{IsDropAt}
use Rattle.queue_disc_core.specs.QueueDiscs.{handle_of}

found_is : (accepted : List Acceptance) (id : ℕ) (a : Acceptance) (P : Acceptance → Type 0) → AllByRecursion P accepted → named accepted id ≡ Some a → (a.id ≡ id) × P a
found_is [] id a P all e = absurd cc
found_is (b ∷ accepted) id a P all e =
    elim (cases_eq b.id id) [
      | inl same ↦
          let there : Some b ≡ Some a = rw (eq-eqb b.id id same) at e in
          let one : b ≡ a = cc in
          subst (λ (x : Acceptance). (x.id ≡ id) × P x) one (same, all.0)
      | inr other ↦ found_is accepted id a P all.1 (rw (ne_eqb b.id id other) at e)
    ]

-- What an id names has that id, and ids are below the number of packets.
pub named_is : (accepted : List Acceptance) (id : ℕ) (a : Acceptance) (n : ℕ) → map id_of accepted ≡ range_with_len 0 n → named accepted id ≡ Some a → (a.id ≡ id) × (a.id < n)
named_is accepted id a n ids e = found_is accepted id a (λ b. b.id < n) (ids_below n accepted ids) e

names_below : (n : ℕ) (accepted : List Acceptance) (ids : List ℕ) → map id_of accepted ≡ range_with_len 0 n → AllByRecursion (λ (w : Waiting). w.id < n) (packets_named accepted ids)
names_below n accepted [] e = tt
names_below n accepted (id ∷ ids) e = at (named accepted id) refl (names_below n accepted ids e)
  where
    at : (o : Option Acceptance) → named accepted id ≡ o → AllByRecursion (λ (w : Waiting). w.id < n) (packets_named accepted ids)
        → AllByRecursion (λ (w : Waiting). w.id < n) (cons_option (option_map waiting_of (named accepted id)) (packets_named accepted ids))
    at None is rest = rw is rest
    at (Some a) is rest = rw is ((named_is accepted id a n e is).1, rest)

-- A drop's id is below the number of packets, and the drop is known by what its packet is known by.
pub drop_below : (events : List Event) (n : ℕ) (d : Dropped) → IdsInOrder events → IsDropAt events (lost_packets events) n d → d.id < length (acceptances events)
drop_below events n d ids drop = of_found (slice_get lost n) refl drop.packet
  where
    lost : List Waiting
    lost = lost_packets events

    below : AllByRecursion (λ (w : Waiting). w.id < length (acceptances events)) (lost_packets events)
    below = names_below (length (acceptances events)) (acceptances events) (filter_map dropped_of events) ids

    of_found : (o : Option Waiting) → slice_get (lost_packets events) n ≡ o → IsSomeAnd o (λ w. (d.tag ≡ w.packet.tag) × (d.id ≡ w.id)) → d.id < length (acceptances events)
    of_found None is h = absurd h
    of_found (Some w) is h =
        let within = slice_get_within (lost_packets events) n w is in
        let there : get_or (lost_packets events) n w ≡ w = get_or_from_slice_get (lost_packets events) n w w is in
        let at : (get_or (lost_packets events) n w).id < length (acceptances events) = All-from_recursion (λ (w : Waiting). w.id < length (acceptances events)) (lost_packets events) below n w within in
        let same : (get_or (lost_packets events) n w).id ≡ w.id = ap (λ (v : Waiting). v.id) there in
        let id = h.1 in
        omega arith

pub drop_known : (before : ℕ) (lost : List Waiting) (n : ℕ) (d : Dropped) → IsSomeAnd (slice_get lost n) (λ w. (d.tag ≡ w.packet.tag) × (d.id ≡ w.id))
    → slice_get (map (handle_of before) lost) n ≡ Some (record { tag = d.tag; id = before + d.id })
drop_known before lost n d h = slice_get-map (handle_of before) lost n ∙ of_found (slice_get lost n) h
  where
    of_found : (o : Option Waiting) → IsSomeAnd o (λ w. (d.tag ≡ w.packet.tag) × (d.id ≡ w.id)) → option_map (handle_of before) o ≡ Some (record { tag = d.tag; id = before + d.id })
    of_found None h = absurd h
    of_found (Some w) h = λ i. Some (record { tag = sym h.0 i; id = before + sym h.1 i })
