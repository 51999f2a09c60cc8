-- The flows stay fit for the potential: a quantum of credits at most, packets with bytes, and each flow with a packet is
-- listed.
use Rattle.std.proofs.Common.{◌≡◌, ℕ, ◌+◌, ◌<◌, ◌≤◌, true, eqb, List, [], ◌∷◌, ◌++◌, drop, get_or, length, set, take, None, pos, ◌+ℤ◌, ◌-ℤ◌, ◌≤ℤ◌, refl, sym, ap, subst, ◌∙◌, inl, inr, arith, length-append}
use Rattle.std.specs.List.{AllByRecursion, list_any}
use Rattle.std.proofs.lemmas.Int.{ints}
use Rattle.std.proofs.lemmas.Bool.{cases_Bool, cases_eq, eqb-true}
use Rattle.std.proofs.lemmas.List.{get_or-set_other, take-append-drop}
use Rattle.std.proofs.lemmas.Option.{slice_get_within}
use Rattle.packet_core.specs.declared.packet.Waiting.{Waiting}
use Rattle.flow_core.specs.FlowLists.{FlowLists, queue_at}
use Rattle.fair_core.specs.declared.flow_state.FlowState.{FlowState}
use Rattle.fair_core.specs.declared.fair_queue.FlowList.{FlowList}
use Rattle.fair_core.specs.declared.fair_queue.FlowList.TheVariants.{New, Old}
use Rattle.fair_core.specs.declared.fair_queue.Head.{Head}
use Rattle.fair_core.specs.FairQueueing.{Arrives, is_listed, with_flow_listed}
use Rattle.fair_core.specs.FairQueues.{FairQueues, flow_state_at, emptied_by, new_flow_state, no_queues, queue_of, unlisted}
use Rattle.fair_core.specs.Policies.{DropsFromHeads}
use Rattle.fair_core.specs.Turns.{Chain, Does, Policy, Turn, TurnKind, TurnMade, service_by}
use Rattle.fair_core.specs.Turns.TurnKind.{used_up, emptied, serving}
use Rattle.fair_core.proofs.ListedFlowLemmas.{IsHead, listed_from_head, others}
use Rattle.fair_core.proofs.TurnLemmas.{chain_keeps, queues_stay}
use Rattle.journal_core.proofs.ListLemmas.{ByRecursion-append, ByRecursion-parts}
use Rattle.fair_core.proofs.OldFlows.{Has}
use Rattle.fair_core.proofs.ChainShares.{credits_of}
use Rattle.fair_core.proofs.ChainShares.{listed}
use Rattle.fair_core.proofs.CreditRanges.{replicate_keeps, set_keeps}
use Rattle.fair_core.proofs.OldFlows.{has_cases, has_left, has_right}

has_any : (flow : ℕ) (flows : List ℕ) → list_any (λ other. eqb other flow) flows ≡ true → Has flows flow
has_any flow [] is = absurd cc
has_any flow (other ∷ flows) is =
    elim (cases_Bool (eqb other flow)) [
      | inl t ↦ inl (eqb-true other flow t)
      | inr t ↦ inr (has_any flow flows (rw t at is))
    ]

abbrev pub HasBytes : Waiting → Type 0
HasBytes w = 1 ≤ w.packet.len

bytes_behind : (n : ℕ) (q : List Waiting) → AllByRecursion HasBytes q → AllByRecursion HasBytes (drop n q)
bytes_behind n q h = (ByRecursion-parts HasBytes (take n q) (drop n q) (rw (take-append-drop n q) h)).1

-- a flow stays listed, unless it is the head and leaves
still_listed : (lists : FlowLists) (head : Head) → IsHead lists head → (from : FlowList) (x : ℕ) → (head.flow ≡ x → from ≡ New) → Has (lists.new_flows ++ lists.old_flows) x
    → Has ((emptied_by from lists head).new_flows ++ (emptied_by from lists head).old_flows) x
still_listed lists head at from x stays has = go from stays (rw (listed_from_head lists head at) at has)
  where
    new : List ℕ
    new = (unlisted lists head).new_flows

    old : List ℕ
    old = (unlisted lists head).old_flows

    go : (from : FlowList) → (head.flow ≡ x → from ≡ New) → Has (head.flow ∷ others lists head) x → Has ((emptied_by from lists head).new_flows ++ (emptied_by from lists head).old_flows) x
    go New stays (inl e) = has_right new (old ++ head.flow ∷ []) x (has_right old (head.flow ∷ []) x (inl e))
    go New stays (inr h) =
        elim (has_cases new old x h) [
          | inl k ↦ has_left new (old ++ head.flow ∷ []) x k
          | inr k ↦ has_right new (old ++ head.flow ∷ []) x (has_left old (head.flow ∷ []) x k)
        ]
    go Old stays (inl e) = let never : Old ≡ New = stays e in absurd cc
    go Old stays (inr h) = h

module _ (p : Policy) where
  pub record AreServable (s : FairQueues) : Type 0 where
    pub high : (x : ℕ) → credits_of s x ≤ℤ pos p.quantum
    pub bytes : (x : ℕ) → AllByRecursion HasBytes (queue_of s x)
    pub each_listed : (x : ℕ) → 0 < length (queue_of s x) → Has (listed s) x

  pub opening_servable : (flows : ℕ) → AreServable (no_queues flows)
  opening_servable flows = record {
    high = replicate_keeps (λ (a : FlowState). a.credits ≤ℤ pos p.quantum) new_flow_state flows (omega (arith, ints));
    bytes = replicate_keeps (AllByRecursion HasBytes) [] flows tt;
    each_listed = λ x some. absurd (replicate_keeps (λ (q : List Waiting). 0 < length q → ⊥) [] flows (λ none. omega arith) x some);
  }

  abbrev IsFew : FlowState → Type 0
  IsFew a = a.credits ≤ℤ pos p.quantum

  turn_servable : (now : ℕ) (old new : FairQueues) (made : TurnMade) → Turn p now old made new → AreServable old → AreServable new
  turn_servable now old new made t ready = go made.kind t.does (queues_stay p now old new made t)
    where
      high_by : (flow_state : FlowState) → IsFew flow_state → new.flow_states ≡ set old.flow_states made.head.flow flow_state → (x : ℕ) → credits_of new x ≤ℤ pos p.quantum
      high_by flow_state few is x = rw is (set_keeps IsFew new_flow_state old.flow_states made.head.flow flow_state few ready.high x)

      go : (kind : TurnKind) → Does p now old made.head kind new → (service_by kind ≡ None → new.lists.queues ≡ old.lists.queues) → AreServable new
      go used_up d stay =
          let same = stay refl in
          let none = d.credits in
          record {
            high = high_by (record (flow_state_at old made.head.flow) { credits = (flow_state_at old made.head.flow).credits +ℤ pos p.quantum }) (omega (arith, ints)) (ap (λ (s : FairQueues). s.flow_states) d.leaves);
            bytes = λ x. rw same (ready.bytes x);
            each_listed = λ x some. subst (λ (l : List ℕ). Has l x) (sym (ap listed d.leaves)) (still_listed old.lists made.head t.looks New x (λ _. refl) (ready.each_listed x (rw same at some)));
          }
      go emptied d stay =
          let same = stay refl in
          record {
            high = high_by (record (flow_state_at old made.head.flow) { codel = d.codel }) (ready.high made.head.flow) (ap (λ (s : FairQueues). s.flow_states) d.leaves);
            bytes = λ x. rw same (ready.bytes x);
            each_listed = λ x some.
                let some' : 0 < length (queue_of old x) = rw same at some in
                let other : made.head.flow ≡ x → made.head.from ≡ New = λ e. let none : length (queue_of old x) ≡ 0 = rw (← e) (ap length d.empty) in absurd (omega arith) in
                subst (λ (l : List ℕ). Has l x) (sym (ap listed d.leaves)) (still_listed old.lists made.head t.looks made.head.from x other (ready.each_listed x some'));
          }
      go (serving service) d stay =
          let some = d.credits in
          let high = ready.high made.head.flow in
          let behind = drop (d.drops + 1) (queue_of old made.head.flow) in
          let place = slice_get_within (queue_of old made.head.flow) d.drops service.given.waiting d.stands in
          record {
            high = high_by (record { credits = (flow_state_at old made.head.flow).credits -ℤ pos service.given.waiting.packet.len; codel = d.codel }) (omega (arith, ints)) (ap (λ (s : FairQueues). s.flow_states) d.leaves);
            bytes = λ x. rw d.leaves (set_keeps (AllByRecursion HasBytes) [] old.lists.queues made.head.flow behind (bytes_behind (d.drops + 1) (queue_of old made.head.flow) (ready.bytes made.head.flow)) ready.bytes x);
            each_listed = λ x more.
                let more' : 0 < length (get_or (set old.lists.queues made.head.flow behind) x []) = rw d.leaves at more in
                let was : 0 < length (queue_of old x) = elim (cases_eq x made.head.flow) [
                  | inl e ↦ rw e (omega arith)
                  | inr ne ↦ rw (get_or-set_other old.lists.queues made.head.flow x behind [] ne) at more'
                ] in
                subst (λ (l : List ℕ). Has l x) (sym (ap listed d.leaves)) (ready.each_listed x was);
          }

  pub chain_servable : (now : ℕ) (turns : List TurnMade) (old new : FairQueues) → Chain p now old turns new → AreServable old → AreServable new
  chain_servable now turns old new c ready = chain_keeps p now AreServable (turn_servable now) turns old new c ready

  -- AN ARRIVAL

  listed_high : (old : FairQueues) (flow : ℕ) → AreServable old → (x : ℕ) → credits_of (with_flow_listed p old flow) x ≤ℤ pos p.quantum
  listed_high old flow ready x =
      elim (cases_Bool (is_listed old flow)) [
        | inl t ↦ rw t (ready.high x)
        | inr t ↦ rw t (set_keeps IsFew new_flow_state old.flow_states flow (record (flow_state_at old flow) { credits = pos p.quantum }) (omega (arith, ints)) ready.high x)
      ]

  listed_it : (old : FairQueues) (flow : ℕ) → Has (listed (with_flow_listed p old flow)) flow
  listed_it old flow =
      elim (cases_Bool (is_listed old flow)) [
        | inl t ↦ rw t (has_any flow (listed old) t)
        | inr t ↦ rw t (has_left (old.lists.new_flows ++ flow ∷ []) old.lists.old_flows flow (has_right old.lists.new_flows (flow ∷ []) flow (inl refl)))
      ]

  listed_others : (old : FairQueues) (flow x : ℕ) → Has (listed old) x → Has (listed (with_flow_listed p old flow)) x
  listed_others old flow x has =
      elim (cases_Bool (is_listed old flow)) [
        | inl t ↦ rw t has
        | inr t ↦
            rw t
            (elim (has_cases old.lists.new_flows old.lists.old_flows x has) [
              | inl h ↦ has_left (old.lists.new_flows ++ flow ∷ []) old.lists.old_flows x (has_left old.lists.new_flows (flow ∷ []) x h)
              | inr h ↦ has_right (old.lists.new_flows ++ flow ∷ []) old.lists.old_flows x h
            ])
      ]

  pub arrival_servable : DropsFromHeads p → (old : FairQueues) (flow : ℕ) (w : Waiting) (lost : List Waiting) (new : FairQueues) → Arrives p old flow w lost new → HasBytes w → AreServable old → AreServable new
  arrival_servable drops old flow w lost new a fits ready =
      let with_w = queue_at old.lists flow ++ w ∷ [] in
      let queues = set old.lists.queues flow with_w in
      let leave = drops.heads queues a.batches new.lists.queues a.overflow in
      let flow_states : new.flow_states ≡ (with_flow_listed p old flow).flow_states = ap (λ (s : FairQueues). s.flow_states) a.rest in
      let lists : listed new ≡ listed (with_flow_listed p old flow) = ap listed a.rest in
      let bytes = set_keeps (AllByRecursion HasBytes) [] old.lists.queues flow with_w (ByRecursion-append HasBytes (queue_at old.lists flow) (w ∷ []) (ready.bytes flow) (fits, tt)) ready.bytes in
      record {
        high = λ x. subst (λ (l : List FlowState). IsFew (get_or l x new_flow_state)) (sym flow_states) (listed_high old flow ready x);
        bytes = λ x. (ByRecursion-parts HasBytes _ (get_or new.lists.queues x []) (subst (AllByRecursion HasBytes) (leave x) (bytes x))).1;
        each_listed = λ x some.
            let len = ap length (leave x) ∙ length-append _ (get_or new.lists.queues x []) in
            let was : 0 < length (get_or queues x []) = omega arith in
            subst (λ (l : List ℕ). Has l x) (sym lists)
            (elim (cases_eq x flow) [
              | inl e ↦ rw e (listed_it old flow)
              | inr ne ↦ listed_others old flow x (ready.each_listed x (rw (get_or-set_other old.lists.queues flow x with_w [] ne) at was))
            ]);
      }
