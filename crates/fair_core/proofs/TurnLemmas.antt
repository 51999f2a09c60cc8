-- Turns and chains of them: from flows that are listed there is one turn, and no other; only one that serves changes the
-- queues, and it is the last one of its chain.
use Rattle.std.proofs.Common.{◌≡◌, ℕ, ◌+◌, ◌⊎◌, List, [], ◌∷◌, drop, take, Some, None, slice_get, pos, ◌-ℤ◌, ◌<ℤ◌, refl, sym, ap, subst, ◌∙◌, inl, inr, arith}
use Rattle.std.proofs.lemmas.Int.{ints, by_lt_z}
use Rattle.packet_core.specs.declared.packet.Waiting.{Waiting}
use Rattle.codel_core.specs.declared.state.CodelState.{CodelState}
use Rattle.flow_core.specs.FlowLists.{FlowLists, with_queue}
use Rattle.fair_core.specs.declared.fair_queue.FlowList.{FlowList}
use Rattle.fair_core.specs.declared.fair_queue.FlowList.TheVariants.{New, Old}
use Rattle.fair_core.specs.declared.fair_queue.Head.{Head}
use Rattle.fair_core.specs.FairQueues.{FairQueues, flow_state_at, emptied_by, emptied_lists, head_of, queue_of, with_flow_state}
use Rattle.fair_core.specs.Policies.{IsDecided}
use Rattle.fair_core.specs.Turns.{Chain, Does, Policy, Sends, Service, Turn, TurnKind, TurnMade, service_by, service_in}
use Rattle.fair_core.specs.Turns.TurnKind.{used_up, emptied, serving}

emptied_queues : (from : FlowList) (lists : FlowLists) (head : Head) → (emptied_by from lists head).queues ≡ lists.queues
emptied_queues New lists head = refl
emptied_queues Old lists head = refl

module _ (p : Policy) (now : ℕ) where
  -- a turn that doesn't serve leaves the queues
  pub queues_stay : (old new : FairQueues) (made : TurnMade) → Turn p now old made new → service_by made.kind ≡ None → new.lists.queues ≡ old.lists.queues
  queues_stay old new made t unserved = go made.kind t.does unserved
    where
      go : (kind : TurnKind) → Does p now old made.head kind new → service_by kind ≡ None → new.lists.queues ≡ old.lists.queues
      go used_up d none = ap (λ (s : FairQueues). s.lists.queues) d.leaves
      go emptied d none = ap (λ (s : FairQueues). s.lists.queues) d.leaves ∙ emptied_queues made.head.from old.lists made.head
      go (serving service) d none = absurd cc

  -- and one that serves sends
  pub sends_of : (old new : FairQueues) (made : TurnMade) (s : Service) → Turn p now old made new → service_by made.kind ≡ Some s → Sends p now old made.head s new
  sends_of old new made s t served = go made.kind t.does served
    where
      go : (kind : TurnKind) → Does p now old made.head kind new → service_by kind ≡ Some s → Sends p now old made.head s new
      go used_up d some = absurd cc
      go emptied d some = absurd cc
      go (serving service) d some = let e : service ≡ s = cc in subst (λ (x : Service). Sends p now old made.head x new) e d

  -- what every turn keeps a chain of them keeps
  pub chain_keeps : (P : FairQueues → Type 0) → ((old new : FairQueues) (made : TurnMade) → Turn p now old made new → P old → P new)
      → (turns : List TurnMade) (old new : FairQueues) → Chain p now old turns new → P old → P new
  chain_keeps P keeps [] old new c h = rw c.1 h
  chain_keeps P keeps (made ∷ more) old new (inl c) h = keeps old new made c.3 h
  chain_keeps P keeps (made ∷ more) old new (inr c) h = chain_keeps P keeps more c.0 new c.3 (keeps old c.0 made c.2 h)

  -- the queues behind a chain: as they were, or what its last turn, from the same queues, sends leaves
  pub chain_sends : (turns : List TurnMade) (old new : FairQueues) → Chain p now old turns new
      → ((service_in turns ≡ None) × (new.lists.queues ≡ old.lists.queues))
      ⊎ ((last : FairQueues) × (head : Head) × (s : Service) × (service_in turns ≡ Some s) × (last.lists.queues ≡ old.lists.queues) × Sends p now last head s new)
  chain_sends [] old new c = inl (refl, ap (λ (s : FairQueues). s.lists.queues) c.1)
  chain_sends (made ∷ more) old new (inl c) = inr (old, made.head, c.0, rw c.1 refl, refl, sends_of old new made c.0 c.3 c.1)
  chain_sends (made ∷ more) old new (inr c) =
      let same = queues_stay old c.0 made c.2 c.1 in
      elim (chain_sends more c.0 new c.3) [
        | inl e ↦ inl (rw c.1 e.0, e.1 ∙ same)
        | inr e ↦ inr (e.0, e.1, e.2, rw c.1 e.3, e.4 ∙ same, e.5)
      ]

module _ (p : Policy) (decided : IsDecided p) (now : ℕ) (old : FairQueues) where
  -- two turns of one state do the same
  does_once : (head : Head) (kind kind' : TurnKind) (new new' : FairQueues) → Does p now old head kind new → Does p now old head kind' new' → (kind ≡ kind') × (new ≡ new')
  does_once head used_up used_up new new' d d' = (refl, d.leaves ∙ sym d'.leaves)
  does_once head used_up emptied new new' d d' = let none = d.credits in let some = d'.credits in absurd (omega (arith, ints))
  does_once head used_up (serving s') new new' d d' = let none = d.credits in let some = d'.credits in absurd (omega (arith, ints))
  does_once head emptied used_up new new' d d' = let some = d.credits in let none = d'.credits in absurd (omega (arith, ints))
  does_once head emptied emptied new new' d d' =
      let same = (decided.once now [] ((flow_state_at old head.flow).codel) 0 0 d.mark d'.mark d.codel d'.codel d.verdict d'.verdict).2 in
      (refl, d.leaves ∙ ap (λ (c : CodelState). with_flow_state old (emptied_lists old.lists head) head.flow (record (flow_state_at old head.flow) { codel = c })) same ∙ sym d'.leaves)
  does_once head emptied (serving s') new new' d d' = let none : slice_get [] d'.drops ≡ Some s'.given.waiting = rw d.empty at d'.stands in absurd cc
  does_once head (serving s) used_up new new' d d' = let some = d.credits in let none = d'.credits in absurd (omega (arith, ints))
  does_once head (serving s) emptied new new' d d' = let none : slice_get [] d.drops ≡ Some s.given.waiting = rw d'.empty at d.stands in absurd cc
  does_once head (serving s) (serving s') new new' d d' =
      let queue = queue_of old head.flow in
      let agree = decided.once now queue ((flow_state_at old head.flow).codel) d.drops d'.drops s.given.mark s'.given.mark d.codel d'.codel d.verdict d'.verdict in
      let given : Some s.given.waiting ≡ Some s'.given.waiting = sym d.stands ∙ ap (slice_get queue) agree.0 ∙ d'.stands in
      let same : s.given.waiting ≡ s'.given.waiting = cc in
      let dropped : s.dropped ≡ s'.dropped = d.dropped ∙ ap (λ (k : ℕ). take k queue) agree.0 ∙ sym d'.dropped in (
        λ i. serving (record { dropped = dropped i; given = record { waiting = same i; mark = agree.1 i } }),
        d.leaves ∙ (λ i. left head (agree.0 i) (agree.2 i) (same i)) ∙ sym d'.leaves,
      )
    where
      left : Head → ℕ → CodelState → Waiting → FairQueues
      left head drops codel w = with_flow_state old (with_queue old.lists head.flow (drop (drops + 1) (queue_of old head.flow))) head.flow (record { credits = (flow_state_at old head.flow).credits -ℤ pos w.packet.len; codel = codel })

  pub turn_once : (made made' : TurnMade) (new new' : FairQueues) → Turn p now old made new → Turn p now old made' new' → (made ≡ made') × (new ≡ new')
  turn_once made made' new new' t t' =
      let looks : Some made.head ≡ Some made'.head = sym t.looks ∙ t'.looks in
      let head : made.head ≡ made'.head = cc in
      let same = does_once made.head made.kind made'.kind new new' t.does (subst (λ (h : Head). Does p now old h made'.kind new') (sym head) t'.does) in
      (λ i. record { head = head i; kind = same.0 i }, same.1)

  -- there is a turn where a flow is listed
  pub turn_there : (head : Head) → head_of old ≡ Some head → (made : TurnMade) × (new : FairQueues) × Turn p now old made new
  turn_there head at =
      by_lt_z (pos 0) ((flow_state_at old head.flow).credits) (λ some. with_credits some (queue_of old head.flow) refl)
      (λ none. (record { head = head; kind = used_up }, _, record { looks = at; does = record { credits = none; leaves = refl } }))
    where
      with_credits : pos 0 <ℤ (flow_state_at old head.flow).credits → (queue : List Waiting) → queue_of old head.flow ≡ queue → (made : TurnMade) × (new : FairQueues) × Turn p now old made new
      with_credits some [] is =
          let v = decided.empties now ((flow_state_at old head.flow).codel) in
          (record { head = head; kind = emptied }, _, record { looks = at; does = record { credits = some; empty = is; mark = v.0; codel = v.1; verdict = v.2; leaves = refl } })
      with_credits some (w ∷ queue) is =
          let v = decided.gives now w queue ((flow_state_at old head.flow).codel) in
          let verdict = subst (λ (q : List Waiting). p.verdict now q (flow_state_at old head.flow).codel v.0 v.1 v.2) (sym is) v.4 in
          let stands = subst (λ (q : List Waiting). slice_get q v.0 ≡ Some v.3) (sym is) v.5 in (
            record { head = head; kind = serving (record { dropped = take v.0 (queue_of old head.flow); given = record { waiting = v.3; mark = v.1 } }) },
            _,
            record { looks = at; does = record { credits = some; drops = v.0; codel = v.2; verdict = verdict; dropped = refl; stands = stands; leaves = refl } },
          )
