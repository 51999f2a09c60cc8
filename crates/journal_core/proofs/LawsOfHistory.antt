-- The laws of the journal, from a history.
use Rattle.std.proofs.Common.{◌≡◌, ℕ, ◌<◌, Bool, true, not, List, ◌++◌, length, map, filter, take, eqb, Decides, Some, refl, sym, ap, subst, ◌∙◌}
use Rattle.std.specs.Str.{bytes_eq}
use Rattle.std.proofs.lemmas.Slice.Eq.{bytes_eq-Decides}
use Rattle.packet_core.specs.declared.packet.Ip.{Ip}
use Rattle.packet_core.specs.declared.packet.Ip.TheVariants.{V4, V6}
use Rattle.journal_core.proofs.Words.{AllByRecursion, range_with_len, eq-eqb, Decides-and, Decides-eqb, Decides-like, map-append, take_at, length-map, recursion_from_All, filter-append, length-range_with_len, same_ip, same_tuple, FiveTuple, Waiting, Event, Acceptance, waiting_of, acceptances, fate_ids, named, is_among, passes, JournalLaws, WaitWithoutFate, IsHistory, IsLine}
use Rattle.journal_core.proofs.ListLemmas.{filter_agree_on, filter_comm, filter_within, filter-map, All-found, ByRecursion-weaker, ByRecursion-all}
use Rattle.journal_core.proofs.IdLemmas.{id_of, Rises, Rises-range, Rises-filter, Rises-rest, passes_at, is_among-filter}
use Rattle.journal_core.proofs.FlowShares.{AreFound, IsOwn, all_own, of_flow, parts_own}
use Rattle.journal_core.proofs.FatelessPackets.{left_by}
use Rattle.journal_core.proofs.EventLemmas.{all_found}

-- the tests of addresses and of five-tuples are right
same_ip-Decides : (a b : Ip) → Decides (same_ip a b) (a ≡ b)
same_ip-Decides (V4 a) (V4 b) = Decides-like (bytes_eq a b) (ap V4) (λ e. cc) (bytes_eq-Decides a b)
same_ip-Decides (V6 a) (V6 b) = Decides-like (bytes_eq a b) (ap V6) (λ e. cc) (bytes_eq-Decides a b)
same_ip-Decides (V4 a) (V6 b) = (λ e. cc, λ e. cc)
same_ip-Decides (V6 a) (V4 b) = (λ e. cc, λ e. cc)

pub same_tuple-Decides : (a b : FiveTuple) → Decides (same_tuple a b) (a ≡ b)
same_tuple-Decides a b =
    Decides-like (same_tuple a b) (λ p. λ i. record { proto = p.0.0.0.0 i; src = p.0.0.0.1 i; dst = p.0.0.1 i; sport = p.0.1 i; dport = p.1 i })
    (λ e. ((((ap (λ (t : FiveTuple). t.proto) e, ap (λ (t : FiveTuple). t.src) e), ap (λ (t : FiveTuple). t.dst) e), ap (λ (t : FiveTuple). t.sport) e), ap (λ (t : FiveTuple). t.dport) e))
    (Decides-and _ _ (Decides-and _ _ (Decides-and _ _ (Decides-and _ _ (Decides-eqb a.proto b.proto) (same_ip-Decides a.src b.src)) (same_ip-Decides a.dst b.dst)) (Decides-eqb a.sport b.sport)) (Decides-eqb a.dport b.dport))

-- Within one flow's share, the acceptances that pass a test leave in order.
module _ (flow : ℕ) (waiting : List Waiting) (accepted : List Acceptance) (fated : List ℕ) (rises : Rises 0 accepted) (found : AreFound accepted fated) (line : IsLine flow waiting accepted fated) where
  -- a test that only acceptances of this flow pass
  fates_of : (test : Acceptance → Bool) → AllByRecursion (λ a. test a ≡ true → of_flow flow a ≡ true) accepted → filter (passes test accepted) fated ≡ map id_of (filter test line.gone)
  fates_of test own =
      let within = ByRecursion-weaker (λ id. (a : Acceptance) × (named accepted id ≡ Some a)) (λ id. passes test accepted id ≡ true → passes (of_flow flow) accepted id ≡ true) fated (λ id h. id_within id h.0 h.1) found in
      let gone = (parts_own flow accepted line.gone line.rest rises line.split).0 in
      let at = ByRecursion-weaker (IsOwn flow accepted) (λ (a : Acceptance). passes test accepted a.id ≡ test a) line.gone (λ a own. passes_at test accepted a.id a own.0) gone in
      filter_within (passes test accepted) (passes (of_flow flow) accepted) fated within ∙ ap (filter (passes test accepted)) line.fates ∙ filter-map id_of (passes test accepted) test line.gone at
    where
      id_within : (id : ℕ) (a : Acceptance) → named accepted id ≡ Some a → passes test accepted id ≡ true → passes (of_flow flow) accepted id ≡ true
      id_within id a e t =
          passes_at (of_flow flow) accepted id a e ∙ All-found (λ b. test b ≡ true → of_flow flow b ≡ true) (λ b. eqb b.id id) accepted a own e (sym (passes_at test accepted id a e) ∙ t)

  pub leave_in_order : (test : Acceptance → Bool) → AllByRecursion (λ a. test a ≡ true → of_flow flow a ≡ true) accepted
      → filter (passes test accepted) fated ≡ take (length (filter (passes test accepted) fated)) (map id_of (filter test accepted))
  leave_in_order test own =
      let fates = fates_of test own in
      let split : filter test accepted ≡ filter test line.gone ++ filter test line.rest = filter_within test (of_flow flow) accepted own ∙ ap (filter test) line.split ∙ filter-append test line.gone line.rest in
      let ids : map id_of (filter test accepted) ≡ map id_of (filter test line.gone) ++ map id_of (filter test line.rest) = ap (map id_of) split ∙ map-append id_of (filter test line.gone) (filter test line.rest) in
      rw (fates, ids) (sym (take_at (map id_of (filter test line.gone)) (map id_of (filter test line.rest)) (length (map id_of (filter test line.gone))) refl))

  -- the rest of the share is what has no fate
  pub rest_is_left : filter (of_flow flow) (left_by fated accepted) ≡ line.rest
  rest_is_left =
      filter_comm (of_flow flow) (λ a. not (is_among fated a.id)) accepted
      ∙ filter_agree_on (λ a. not (is_among fated a.id)) (λ a. not (is_among (map id_of line.gone) a.id)) (filter (of_flow flow) accepted)
      (ByRecursion-weaker (IsOwn flow accepted) (λ a. not (is_among fated a.id) ≡ not (is_among (map id_of line.gone) a.id)) (filter (of_flow flow) accepted) (λ a own. ap not (fate_at a own)) (all_own flow accepted rises))
      ∙ ap (filter (λ a. not (is_among (map id_of line.gone) a.id))) line.split ∙ Rises-rest 0 line.gone line.rest (subst (Rises 0) line.split (Rises-filter (of_flow flow) 0 accepted rises))
    where
      -- whether a packet of this flow has a fate
      fate_at : (a : Acceptance) → IsOwn flow accepted a → is_among fated a.id ≡ is_among (map id_of line.gone) a.id
      fate_at a own = sym (is_among-filter (passes (of_flow flow) accepted) fated a.id (passes_at (of_flow flow) accepted a.id a own.0 ∙ own.1)) ∙ ap (λ ids. is_among ids a.id) line.fates

module _ (flow_of : FiveTuple → ℕ) (queue_of : ℕ → List Waiting) (events : List Event) (n last : ℕ) (closed : Bool) (h : IsHistory flow_of queue_of events n last closed) where
  rises : Rises 0 (acceptances events)
  rises = Rises-range 0 n (acceptances events) h.ids

  found : AreFound (acceptances events) (fate_ids events)
  found = all_found (acceptances events) n (fate_ids events) h.ids (recursion_from_All (λ id. id < n) (fate_ids events) h.known)

  -- a journal of a history has the laws
  pub laws_of_history : JournalLaws flow_of events
  laws_of_history = record {
    ids_in_order = h.ids ∙ ap (range_with_len 0) (sym (sym (length-map (acceptances events) id_of) ∙ ap length h.ids ∙ length-range_with_len 0 n));
    flows_are_named = h.flows;
    moments_rise = h.rises;
    fates_follow = h.follow;
    one_fate = h.one_fate;
    order_of_tuple = λ tuple.
        leave_in_order (flow_of tuple) (queue_of (flow_of tuple)) (acceptances events) (fate_ids events) rises found (h.lines (flow_of tuple)) (λ a. same_tuple a.packet.tuple tuple)
        (ByRecursion-weaker (λ a. a.flow ≡ flow_of a.packet.tuple) (λ a. same_tuple a.packet.tuple tuple ≡ true → of_flow (flow_of tuple) a ≡ true) (acceptances events)
        (λ a is_named same. eq-eqb a.flow (flow_of tuple) (is_named ∙ ap flow_of ((same_tuple-Decides a.packet.tuple tuple).0 same)))
        (recursion_from_All (λ a. a.flow ≡ flow_of a.packet.tuple) (acceptances events) h.flows));
    order_of_flow = λ flow.
        leave_in_order flow (queue_of flow) (acceptances events) (fate_ids events) rises found (h.lines flow) (of_flow flow) (ByRecursion-all (λ a. of_flow flow a ≡ true → of_flow flow a ≡ true) (acceptances events) (λ a t. t));
    closed_for_good = h.closed_for_good;
    honest_marks = h.honest;
  }

  -- and its queues are what has no fate
  pub waits_of_history : WaitWithoutFate queue_of events
  waits_of_history = λ flow.
      (h.lines flow).queue ∙ ap (map waiting_of) (sym (rest_is_left flow (queue_of flow) (acceptances events) (fate_ids events) rises found (h.lines flow)))
