-- A scheduler whose flows take turns is first in, first out by flow, whatever drops from the heads of its queues.
use Rattle.std.proofs.Common.{◌≡◌, ℕ, ◌+◌, ◌<◌, List, [], ◌∷◌, ◌++◌, drop, take, eqb, get_or, set, length, replicate, Some, slice_get, IfSome, add-one, refl, sym, ap, ◌∙◌, inl, inr, append-nil}
use Rattle.std.proofs.lemmas.Bool.{cases_eq, cases_lt, eq-eqb, ne_eqb, cases_Bool}
use Rattle.std.proofs.lemmas.List.{get_or-set_same, get_or-set_other, get_or-replicate, get_or_past, length-replicate, take-append-drop}
use Rattle.std.proofs.Math.Seq.{take-suc}
use Rattle.std.proofs.lemmas.Option.{get_or_from_slice_get, slice_get_within}
use Rattle.packet_core.specs.declared.packet.FiveTuple.{FiveTuple}
use Rattle.packet_core.specs.declared.packet.Waiting.{Waiting}
use Rattle.journal_core.specs.Disciplines.{IsFifoByFlow, LeavesHead, MayHave, given_packet, with_arrival}
use Rattle.fair_core.specs.FairQueues.{FairQueues, queue_of}
use Rattle.fair_core.specs.FairQueueing.{dropped_in, fair_queueing, given_in}
use Rattle.fair_core.specs.Policies.{DropsFromHeads}
use Rattle.fair_core.specs.Turns.{Chain, Policy, Sends, Service, TurnMade, service_in}
use Rattle.fair_core.specs.declared.fair_queue.Head.{Head}
use Rattle.fair_core.proofs.TurnLemmas.{chain_sends}

opens : (flows flow : ℕ) → get_or {A = List Waiting} (replicate flows []) flow [] ≡ []
opens flows flow =
    elim (cases_lt flow flows) [
      | inl below ↦ get_or-replicate flows flow [] [] below
      | inr past ↦ get_or_past (replicate flows []) flow [] (rw (length-replicate {A = List Waiting} flows []) past)
    ]

pub arrives : (queues : List (List Waiting)) (flow : ℕ) (w : Waiting) (f : ℕ) → flow < length queues
    → with_arrival (λ g. get_or queues g []) flow w f ≡ get_or (set queues flow (get_or queues flow [] ++ w ∷ [])) f []
arrives queues flow w f within =
    elim (cases_eq flow f) [
      | inl same ↦ rw (eq-eqb flow f same, ← same, get_or-set_same queues flow (get_or queues flow [] ++ w ∷ []) [] within) refl
      | inr other ↦ rw (ne_eqb flow f other, get_or-set_other queues flow f (get_or queues flow [] ++ w ∷ []) [] (λ e. other (sym e))) (append-nil (get_or queues f []))
    ]

-- a flow with a packet is a flow
pub within_from_packet : (queues : List (List Waiting)) (flow k : ℕ) (w : Waiting) → slice_get (get_or queues flow []) k ≡ Some w → flow < length queues
within_from_packet queues flow k w found =
    elim (cases_lt flow (length queues)) [
      | inl below ↦ below
      | inr past ↦ let e : slice_get [] k ≡ Some w = rw (get_or_past queues flow [] past) at found in absurd cc
    ]

-- packets that leave the head of a flow's queue
pub heads_leave : (queues : List (List Waiting)) (flow n : ℕ) → flow < length queues
    → LeavesHead (λ f. get_or queues f []) flow (take n (get_or queues flow [])) (λ f. get_or (set queues flow (drop n (get_or queues flow []))) f [])
heads_leave queues flow n within f =
    elim (cases_eq flow f) [
      | inl same ↦ rw (eq-eqb flow f same, ← same, get_or-set_same queues flow (drop n (get_or queues flow [])) [] within) (sym (take-append-drop n (get_or queues flow [])))
      | inr other ↦ rw (ne_eqb flow f other, get_or-set_other queues flow f (drop n (get_or queues flow [])) [] (λ e. other (sym e))) refl
    ]

-- those before a place and the one there
served_leaves : (queues : List (List Waiting)) (flow k : ℕ) (w : Waiting) → slice_get (get_or queues flow []) k ≡ Some w
    → LeavesHead (λ f. get_or queues f []) flow (take k (get_or queues flow []) ++ w ∷ []) (λ f. get_or (set queues flow (drop (k + 1) (get_or queues flow []))) f [])
served_leaves queues flow k w found =
    let q = get_or queues flow [] in
    let taken : take (k + 1) q ≡ take k q ++ w ∷ [] = rw (add-one, take-suc q k w (slice_get_within q k w found), get_or_from_slice_get q k w w found) refl in
    rw taken at (heads_leave queues flow (k + 1) (within_from_packet queues flow k w found))

nothing_leaves : (old new : FairQueues) → new.lists.queues ≡ old.lists.queues → LeavesHead (queue_of old) 0 [] (queue_of new)
nothing_leaves old new e f = elim (cases_Bool (eqb 0 f)) [ inl t ↦ rw (t, e) refl | inr t ↦ rw (t, e) refl ]

module _ (p : Policy) (laws : DropsFromHeads p) where
  sends_head : (now : ℕ) (old last new : FairQueues) (head : Head) (s : Service) → last.lists.queues ≡ old.lists.queues → Sends p now last head s new
      → ((flow : ℕ) × LeavesHead (queue_of old) flow (s.dropped ++ s.given.waiting ∷ []) (queue_of new)) × MayHave s.given.mark s.given.waiting.packet.ecn
  sends_head now old last new head s same d =
      let leaves = served_leaves last.lists.queues head.flow d.drops s.given.waiting d.stands in (
        (head.flow, rw (d.dropped, d.leaves) (λ f. ap (λ (queues : List (List Waiting)). get_or queues f []) (sym same) ∙ leaves f)),
        laws.honest now (queue_of last head.flow) _ d.drops s.given.mark d.codel d.verdict s.given.waiting d.stands,
      )

  chain_serves : (now : ℕ) (turns : List TurnMade) (old new : FairQueues) → Chain p now old turns new
      → ((flow : ℕ) × LeavesHead (queue_of old) flow (dropped_in (service_in turns) ++ given_packet (given_in (service_in turns))) (queue_of new)) × IfSome (given_in (service_in turns)) (λ g. MayHave g.mark g.waiting.packet.ecn)
  chain_serves now turns old new c =
      elim (chain_sends p now turns old new c) [
        | inl e ↦ rw e.0 ((0, nothing_leaves old new e.1), tt)
        | inr e ↦ rw e.3 (sends_head now old e.0 new e.1 e.2 e.4 e.5)
      ]

  pub fair_is_fifo : (flows : ℕ) (flow_of : FiveTuple → ℕ) → IsFifoByFlow (fair_queueing p flows flow_of) queue_of
  fair_is_fifo flows flow_of = record {
    opens = opens flows;
    admits = λ old w lost new m. (m.batches, m.lost_in_order, λ f. arrives old.lists.queues (flow_of w.packet.tuple) w f m.within ∙ laws.heads _ m.batches _ m.overflow f);
    serves = λ old now dropped given new m. rw (m.dropped_by, m.given_by) (chain_serves now m.turns old new m.chain);
  }
