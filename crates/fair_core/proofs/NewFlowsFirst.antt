-- New flows go first: a chain sends from the first of the new flows that has credits and a packet.
use Rattle.std.proofs.Common.{◌<◌, ◌≡◌, ◌≢◌, ℕ, List, [], ◌∷◌, ◌++◌, Some, None, slice_get, pos, ◌<ℤ◌, refl, sym, ap, subst, ◌∙◌, inl, inr, arith}
use Rattle.std.specs.List.{AllByRecursion}
use Rattle.std.proofs.lemmas.Int.{ints}
use Rattle.std.proofs.lemmas.List.{get_or-set_other}
use Rattle.std.proofs.lemmas.List.Elements.{recursion_from_All}
use Rattle.flow_core.specs.FlowLists.{AreDistinct}
use Rattle.fair_core.specs.declared.flow_state.FlowState.{FlowState}
use Rattle.fair_core.specs.declared.fair_queue.FlowList.TheVariants.{New}
use Rattle.fair_core.specs.declared.fair_queue.Head.{Head}
use Rattle.fair_core.specs.FairQueues.{AreSound, FairQueues, flow_state_at, head_of, head_of_lists, new_flow_state, to_old, with_flow_state}
use Rattle.fair_core.specs.NewFlows.{IsFirstReady, IsReady, SendsFrom}
use Rattle.fair_core.specs.Turns.{Chain, Does, Policy, Service, Turn, TurnKind, TurnMade, service_by, service_in}
use Rattle.fair_core.specs.Turns.TurnKind.{used_up, emptied, serving}
use Rattle.journal_core.proofs.ListLemmas.{ByRecursion-both, ByRecursion-parts, ByRecursion-weaker}
use Rattle.fair_core.proofs.ServingChains.{turn_lowers}

abbrev NotReady : FairQueues → List ℕ → Type 0
NotReady s flows = AllByRecursion (λ other. IsReady s other → ⊥) flows

abbrev new_head : ℕ → Head
new_head flow = record { flow = flow; from = New }

-- the head where the list of new flows isn't empty
head_new : (s : FairQueues) (flow : ℕ) (rest : List ℕ) → s.lists.new_flows ≡ flow ∷ rest → head_of s ≡ Some (new_head flow)
head_new s flow rest place = ap (λ l. head_of_lists l s.lists.old_flows) place

-- the chain goes on with the same queues, and the list of new flows begins with those that aren't ready and then that one
abbrev GoesOn : FairQueues → ℕ → List ℕ → List ℕ → FairQueues → Type 0
GoesOn s flow before behind next = (next.lists.queues ≡ s.lists.queues) × (next.lists.new_flows ≡ before ++ flow ∷ behind) × IsReady next flow × NotReady next before

-- A turn moves a new flow that isn't ready out of the way: the next one stays ready or not.
module _ (s : FairQueues) (b flow : ℕ) (before behind : List ℕ) (place : s.lists.new_flows ≡ b ∷ (before ++ flow ∷ behind)) (sound : AreSound s) (flow_state : FlowState) where
  abbrev moved : FairQueues
  moved = with_flow_state s (to_old s.lists (new_head b)) b flow_state

  apart : AllByRecursion (λ other. other ≢ b) (before ++ flow ∷ behind)
  apart =
      let once : AreDistinct (b ∷ ((before ++ flow ∷ behind) ++ s.lists.old_flows)) = subst (λ l. AreDistinct (l ++ s.lists.old_flows)) place sound.listed.once in
      (ByRecursion-parts (λ other. other ≢ b) (before ++ flow ∷ behind) s.lists.old_flows (recursion_from_All (λ other. other ≢ b) _ once.0)).0

  flow_state_stays : (other : ℕ) → other ≢ b → flow_state_at moved other ≡ flow_state_at s other
  flow_state_stays other differs = get_or-set_other s.flow_states b other flow_state new_flow_state differs

  still_ready : IsReady s flow → IsReady moved flow
  still_ready ready = record {
    credits = rw (flow_state_stays flow ((ByRecursion-parts (λ other. other ≢ b) before (flow ∷ behind) apart).1.0)) ready.credits;
    waits = ready.waits;
  }

  still_not_ready : NotReady s before → NotReady moved before
  still_not_ready none =
      ByRecursion-weaker (λ other. (other ≢ b) × (IsReady s other → ⊥)) (λ other. IsReady moved other → ⊥) before
      (λ other h ready. h.1 (record { credits = subst (λ (a : FlowState). pos 0 <ℤ a.credits) (flow_state_stays other h.0) ready.credits; waits = ready.waits }))
      (ByRecursion-both (λ other. other ≢ b) (λ other. IsReady s other → ⊥) before (ByRecursion-parts (λ other. other ≢ b) before (flow ∷ behind) apart).0 none)

  moved_on : IsReady s flow → NotReady s before → GoesOn s flow before behind moved
  moved_on ready none = (refl, rw place refl, still_ready ready, still_not_ready none)

module _ (p : Policy) (some_quantum : 0 < p.quantum) (now : ℕ) where
  -- what the turn does to the new flow at the head
  does_new : (s new : FairQueues) (made : TurnMade) (flow : ℕ) (rest : List ℕ) → s.lists.new_flows ≡ flow ∷ rest → Turn p now s made new → Does p now s (new_head flow) made.kind new
  does_new s new made flow rest place t =
      let looks : Some made.head ≡ Some (new_head flow) = sym t.looks ∙ head_new s flow rest place in
      let head : made.head ≡ new_head flow = cc in
      subst (λ (h : Head). Does p now s h made.kind new) head t.does

  -- a flow that is ready is served
  ready_serves : (s new : FairQueues) (flow : ℕ) (kind : TurnKind) → IsReady s flow → Does p now s (new_head flow) kind new → (service : Service) × (service_by kind ≡ Some service) × SendsFrom flow s.lists.queues (Some service) new.lists.queues
  ready_serves s new flow used_up ready d = let none = d.credits in let some = ready.credits in absurd (omega (arith, ints))
  ready_serves s new flow emptied ready d = absurd (ready.waits d.empty)
  ready_serves s new flow (serving service) ready d = (service, refl, record { drops = d.drops; mark = service.given.mark; given = service.given.waiting; stands = d.stands; served = rw (← d.dropped) refl; rest = ap (λ (s : FairQueues). s.lists.queues) d.leaves })

  -- one that isn't is not
  not_ready_serves : (s new : FairQueues) (flow : ℕ) (kind : TurnKind) (service : Service) → (IsReady s flow → ⊥) → Does p now s (new_head flow) kind new → service_by kind ≡ Some service → ⊥
  not_ready_serves s new flow used_up service not d some = absurd cc
  not_ready_serves s new flow emptied service not d some = absurd cc
  not_ready_serves s new flow (serving service') service not d some = not (record { credits = d.credits; waits = λ empty. (let none : slice_get [] d.drops ≡ Some service'.given.waiting = rw empty at d.stands in cc) })

  -- and is passed by
  passes_by : (s next : FairQueues) (b flow : ℕ) (before behind : List ℕ) (place : s.lists.new_flows ≡ b ∷ (before ++ flow ∷ behind)) (sound : AreSound s) (kind : TurnKind) → IsReady s flow → NotReady s before → Does p now s (new_head b) kind next → service_by kind ≡ None → GoesOn s flow before behind next
  passes_by s next b flow before behind place sound used_up ready none d unserved = rw d.leaves (moved_on s b flow before behind place sound _ ready none)
  passes_by s next b flow before behind place sound emptied ready none d unserved = rw d.leaves (moved_on s b flow before behind place sound _ ready none)
  passes_by s next b flow before behind place sound (serving service) ready none d unserved = absurd cc

  first_sends : (turns : List TurnMade) (s new : FairQueues) (flow : ℕ) (before behind : List ℕ) → AreSound s → s.lists.new_flows ≡ before ++ flow ∷ behind → IsReady s flow → NotReady s before → Chain p now s turns new → SendsFrom flow s.lists.queues (service_in turns) new.lists.queues
  first_sends [] s new flow [] behind sound place ready none c = let e = sym (head_new s flow behind place) ∙ c.0 in absurd cc
  first_sends [] s new flow (b ∷ before) behind sound place ready none c = let e = sym (head_new s b (before ++ flow ∷ behind) place) ∙ c.0 in absurd cc
  first_sends (made ∷ more) s new flow [] behind sound place ready none (inl c) = let sends = ready_serves s new flow made.kind ready (does_new s new made flow behind place c.3) in rw sends.1 sends.2
  first_sends (made ∷ more) s new flow [] behind sound place ready none (inr c) = let sends = ready_serves s c.0 flow made.kind ready (does_new s c.0 made flow behind place c.2) in let e : None ≡ Some sends.0 = sym c.1 ∙ sends.1 in absurd cc
  first_sends (made ∷ more) s new flow (b ∷ before) behind sound place ready none (inl c) = absurd (not_ready_serves s new b made.kind c.0 none.0 (does_new s new made b (before ++ flow ∷ behind) place c.3) c.1)
  first_sends (made ∷ more) s new flow (b ∷ before) behind sound place ready none (inr c) =
      let on = passes_by s c.0 b flow before behind place sound made.kind ready none.1 (does_new s c.0 made b (before ++ flow ∷ behind) place c.2) c.1 in
      rw (c.1, ← on.0) (first_sends more c.0 new flow before behind (turn_lowers p some_quantum now s c.0 made sound c.2 c.1).0 on.1 on.2 on.3 c.3)

  pub new_flows_first : (turns : List TurnMade) (s new : FairQueues) (flow : ℕ) → AreSound s → IsFirstReady s flow → Chain p now s turns new → SendsFrom flow s.lists.queues (service_in turns) new.lists.queues
  new_flows_first turns s new flow sound first c = first_sends turns s new flow first.before first.behind sound first.place first.ready (recursion_from_All (λ other. IsReady s other → ⊥) first.before first.others) c
