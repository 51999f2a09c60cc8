-- How one event carries a history on.
use Rattle.std.proofs.Common.{◌≡◌, ℕ, ◌+◌, ◌<◌, ◌≤◌, Bool, true, false, ◌||◌, List, [], ◌∷◌, ◌++◌, length, map, sum_by, All, eqb, Some, None, refl, sym, ap, subst, ◌∙◌, ◌⊎◌, inl, inr, arith}
use Rattle.journal_core.proofs.Words.{range_with_len, eqb-true, cases_eq, eq-eqb, ne_eqb, map-append, All-push, All-weaker, recursion_from_All, find-append, list_any-append, PacketParts, FiveTuple, Waiting, Event, Accepted, Closed, LeavesHead, with_arrival, Acceptance, waiting_of, acceptance_of, fate_of, moment_of, is_closed, acceptances, accepted_ids, fate_ids, named, without_fate, AreDistinct, FlowsAreNamed, IsHonest, is_barred, length_of, length_named, bytes_named, IsHistory, IsLine}
use Rattle.journal_core.proofs.ListLemmas.{length_as_sum, sum_by_agree_on, ByRecursion-weaker, All-found}
use Rattle.journal_core.proofs.IdLemmas.{id_of, ids_below, many_ids, Rises-range, differs_from_each}
use Rattle.journal_core.proofs.FlowShares.{AreFound, line_accepts, line_leaves, line_stays, Leaves}
use Rattle.journal_core.proofs.FatelessPackets.{sum_left, weight_of}
use Rattle.journal_core.proofs.EventLemmas.{range_next, filter_map_same, filter_map_push, follow_push, moments_push, past_push, distinct_push, closed_push_free, closed_push_open, all_honest_stay, all_found}

-- what the ids of found acceptances name stays when packets are accepted
pub bytes_stay : (accepted more : List Acceptance) (ids : List ℕ) → AreFound accepted ids → bytes_named (accepted ++ more) ids ≡ bytes_named accepted ids
bytes_stay accepted more ids found =
    sum_by_agree_on (length_named (accepted ++ more)) (length_named accepted) ids
    (ByRecursion-weaker (λ id. (a : Acceptance) × (named accepted id ≡ Some a)) (λ id. length_named (accepted ++ more) id ≡ length_named accepted id) ids (λ id h. stays id h.0 h.1) found)
  where
    stays : (id : ℕ) (a : Acceptance) → named accepted id ≡ Some a → length_named (accepted ++ more) id ≡ length_named accepted id
    stays id a e = rw (find-append (λ (b : Acceptance). eqb b.id id) accepted more, e) refl

-- What is left and what has a fate make up what was accepted, in number and in bytes.
left_adds_up : (events : List Event) (n : ℕ) → accepted_ids events ≡ range_with_len 0 n → All (λ id. id < n) (fate_ids events) → AreDistinct (fate_ids events)
    → (length (without_fate events) + length (fate_ids events) ≡ n) × (sum_by length_of (without_fate events) + bytes_named (acceptances events) (fate_ids events) ≡ sum_by length_of (acceptances events))
left_adds_up events n ids known once =
    let accepted = acceptances events in
    let fated = fate_ids events in
    let rises = Rises-range 0 n accepted ids in
    let found = all_found accepted n fated ids (recursion_from_All (λ id. id < n) fated known) in
    let ones = sum_by_agree_on (weight_of (λ _. 1) accepted) (λ _. 1) fated (ByRecursion-weaker (λ id. (a : Acceptance) × (named accepted id ≡ Some a)) (λ id. weight_of (λ _. 1) accepted id ≡ 1) fated (λ id h. rw h.1) found) in
    let all = sum_left (λ _. 1) 0 accepted fated rises once in
    (omega (arith, many_ids n accepted ids, length_as_sum (without_fate events), length_as_sum fated, length_as_sum accepted), sum_left length_of 0 accepted fated rises once)

or_false : (b : Bool) → (b || false) ≡ b
or_false true = refl
or_false false = refl

-- the journal of a history, whose queues and last moment are named
module _ (flow_of : FiveTuple → ℕ) (events : List Event) (n last : ℕ) where
  -- One event more: the facts for which its kind doesn't matter follow from the others.
  history_push : (queue_of queue_of' : ℕ → List Waiting) (closed closed' : Bool) (n' : ℕ) (e : Event) → IsHistory flow_of queue_of events n last closed → last ≤ moment_of e → accepted_ids (events ++ e ∷ []) ≡ range_with_len 0 n'
      → FlowsAreNamed flow_of (events ++ e ∷ []) → All (λ id. id < n') (fate_ids (events ++ e ∷ [])) → AreDistinct (fate_ids (events ++ e ∷ []))
      → ((flow : ℕ) → IsLine flow (queue_of' flow) (acceptances (events ++ e ∷ [])) (fate_ids (events ++ e ∷ []))) → (closed || is_closed e) ≡ closed' → (closed ≡ false) ⊎ (is_barred e ≡ false)
      → All (IsHonest (acceptances (events ++ e ∷ []))) (events ++ e ∷ []) → IsHistory flow_of queue_of' (events ++ e ∷ []) n' (moment_of e) closed'
  history_push queue_of queue_of' closed closed' n' e h later ids flows known once lines close free honest =
      let sums = left_adds_up (events ++ e ∷ []) n' ids known once in
      record {
        ids = ids;
        flows = flows;
        rises = moments_push events e last h.rises h.past later;
        past = past_push events e last h.past later;
        known = known;
        follow = follow_push events e n' h.follow ids known;
        one_fate = once;
        lines = lines;
        close = list_any-append is_closed events (e ∷ []) ∙ (λ k. h.close k || or_false (is_closed e) k) ∙ close;
        closed_for_good = elim free [ inl open' ↦ closed_push_open events e (h.close ∙ open') | inr ok ↦ closed_push_free events e ok h.closed_for_good ];
        honest = honest;
        left = sums.0;
        left_bytes = sums.1;
      }

  -- A packet is accepted at a moment that is not before the last one, where there was no close.
  pub history_accepts : (queue_of : ℕ → List Waiting) (moment lane : ℕ) (packet : PacketParts) → IsHistory flow_of queue_of events n last false → last ≤ moment
      → IsHistory flow_of (with_arrival queue_of (flow_of packet.tuple) (record { id = n; stamp = moment; packet = packet })) (events ++ Accepted lane n moment (flow_of packet.tuple) packet ∷ []) (n + 1) moment false
  history_accepts queue_of moment lane packet h later =
      let e : Event = Accepted lane n moment (flow_of packet.tuple) packet in
      let a : Acceptance = record { id = n; moment = moment; lane = lane; flow = flow_of packet.tuple; packet = packet } in
      let accepted : acceptances (events ++ e ∷ []) ≡ acceptances events ++ a ∷ [] = filter_map_push acceptance_of events e a refl in
      let fated : fate_ids (events ++ e ∷ []) ≡ fate_ids events = filter_map_same fate_of events e refl in
      let found = all_found (acceptances events) n (fate_ids events) h.ids (recursion_from_All (λ id. id < n) (fate_ids events) h.known) in
      let ids : accepted_ids (events ++ e ∷ []) ≡ range_with_len 0 (n + 1) =
      ap (map id_of) accepted ∙ map-append id_of (acceptances events) (a ∷ []) ∙ ap (λ r. r ++ n ∷ []) h.ids ∙ range_next n in
      history_push queue_of (with_arrival queue_of (flow_of packet.tuple) (waiting_of a)) false false (n + 1) e h later ids
      (rw accepted (All-push (λ b. b.flow ≡ flow_of b.packet.tuple) (acceptances events) a h.flows refl))
      (rw fated (All-weaker (λ id. id < n) (λ id. id < n + 1) (λ id low. omega arith) (fate_ids events) h.known)) (rw fated h.one_fate)
      (λ flow. rw (accepted, fated) (line_accepts flow (queue_of flow) (acceptances events) (fate_ids events) a found (h.lines flow))) refl (inl refl)
      (rw accepted (All-push (IsHonest (acceptances events ++ a ∷ [])) events e (all_honest_stay (acceptances events) (a ∷ []) events h.honest) tt))

  -- There is a close.
  pub history_closes : (queue_of : ℕ → List Waiting) (moment : ℕ) → IsHistory flow_of queue_of events n last false → last ≤ moment → IsHistory flow_of queue_of (events ++ Closed moment ∷ []) n moment true
  history_closes queue_of moment h later =
      let e : Event = Closed moment in
      let accepted : acceptances (events ++ e ∷ []) ≡ acceptances events = filter_map_same acceptance_of events e refl in
      let fated : fate_ids (events ++ e ∷ []) ≡ fate_ids events = filter_map_same fate_of events e refl in
      history_push queue_of queue_of false true n e h later (ap (map id_of) accepted ∙ h.ids) (rw accepted h.flows) (rw fated h.known) (rw fated h.one_fate) (λ flow. rw (accepted, fated) (h.lines flow)) refl (inl refl)
      (rw accepted (All-push (IsHonest (acceptances events)) events e h.honest tt))

  -- The packet at the head of a flow's queue has a fate.
  pub history_fates : (queue_of queue_of' : ℕ → List Waiting) (closed : Bool) (flow : ℕ) (w : Waiting) (e : Event) → IsHistory flow_of queue_of events n last closed → LeavesHead queue_of flow (w ∷ []) queue_of' → last ≤ moment_of e
      → acceptance_of e ≡ None → fate_of e ≡ Some w.id → is_barred e ≡ false → is_closed e ≡ false → ((a : Acceptance) → named (acceptances events) w.id ≡ Some a → waiting_of a ≡ w → IsHonest (acceptances events) e)
      → IsHistory flow_of queue_of' (events ++ e ∷ []) n (moment_of e) closed
  history_fates queue_of queue_of' closed flow w e h leaves later no_acceptance fate free open' honest =
      let accepted : acceptances (events ++ e ∷ []) ≡ acceptances events = filter_map_same acceptance_of events e no_acceptance in
      let fated : fate_ids (events ++ e ∷ []) ≡ fate_ids events ++ w.id ∷ [] = filter_map_push fate_of events e w.id fate in
      let queue : queue_of flow ≡ w ∷ queue_of' flow = leaves flow ∙ rw (eq-eqb flow flow refl) in
      let own : IsLine flow (w ∷ queue_of' flow) (acceptances events) (fate_ids events) = subst (λ q. IsLine flow q (acceptances events) (fate_ids events)) queue (h.lines flow) in
      let left = line_leaves flow w (queue_of' flow) (acceptances events) (fate_ids events) (Rises-range 0 n (acceptances events) h.ids) own in
      let id_is : left.who.id ≡ w.id = ap (λ (v : Waiting). v.id) left.same in
      let below = All-found (λ (b : Acceptance). b.id < n) (λ b. eqb b.id w.id) (acceptances events) left.who (ids_below n (acceptances events) h.ids) left.found in
      history_push queue_of queue_of' closed closed n e h later (ap (map id_of) accepted ∙ h.ids) (rw accepted h.flows)
      (rw fated (All-push (λ id. id < n) (fate_ids events) w.id h.known (omega arith))) (rw fated (distinct_push (fate_ids events) w.id h.one_fate (differs_from_each (fate_ids events) w.id left.new)))
      (λ f. rw (accepted, fated) (line_of f left)) (rw open' (or_false closed)) (inr free) (rw accepted (All-push (IsHonest (acceptances events)) events e h.honest (honest left.who left.found left.same)))
    where
      line_of : (f : ℕ) → Leaves flow w (queue_of' flow) (acceptances events) (fate_ids events) → IsLine f (queue_of' f) (acceptances events) (fate_ids events ++ w.id ∷ [])
      line_of f left =
          elim (cases_eq flow f) [
            | inl same ↦ subst (λ g. IsLine g (queue_of' g) (acceptances events) (fate_ids events ++ w.id ∷ [])) same left.line
            | inr other ↦
                let flow_is = eqb-true left.who.flow flow left.flow_is in
                let stays : queue_of f ≡ queue_of' f = leaves f ∙ rw (ne_eqb flow f other) in
                line_stays f (queue_of' f) (acceptances events) (fate_ids events) w.id left.who left.found (ne_eqb left.who.flow f (λ s. other (sym flow_is ∙ s))) (subst (λ q. IsLine f q (acceptances events) (fate_ids events)) stays (h.lines f))
          ]
