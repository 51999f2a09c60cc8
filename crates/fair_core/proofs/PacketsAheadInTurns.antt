-- What becomes of the potential of a flow that waits with each turn, with a serving chain and with an arrival.
use Rattle.std.proofs.Common.{◌≡◌, ◌≢◌, ℕ, zero, suc, ◌+◌, ◌-◌, ◌*◌, ◌<◌, ◌≤◌, false, List, [], ◌∷◌, ◌++◌, drop, length, None, ℤ, pos, negsuc, ◌+ℤ◌, ◌-ℤ◌, ◌<ℤ◌, ◌≤ℤ◌, refl, sym, ap, subst, ◌∙◌, inl, inr, arith, length-append, length-drop}
use Rattle.std.specs.List.{AllByRecursion}
use Rattle.std.proofs.lemmas.Int.{ints}
use Rattle.std.proofs.lemmas.Bool.{cases_Bool, cases_eq}
use Rattle.std.proofs.lemmas.List.{get_or-set_other, get_or-set_same, length_push}
use Rattle.std.proofs.lemmas.List.Elements.{recursion_from_All}
use Rattle.std.proofs.lemmas.Option.{slice_get_within}
use Rattle.packet_core.specs.declared.packet.Waiting.{Waiting}
use Rattle.flow_core.specs.FlowLists.{FlowLists, with_queue}
use Rattle.fair_core.specs.declared.flow_state.FlowState.{FlowState}
use Rattle.fair_core.specs.declared.fair_queue.FlowList.{FlowList}
use Rattle.fair_core.specs.declared.fair_queue.FlowList.TheVariants.{New, Old}
use Rattle.fair_core.specs.declared.fair_queue.Head.{Head}
use Rattle.fair_core.specs.FairQueues.{AreSound, FairQueues, flow_state_at, emptied_by, head_of, head_of_lists, new_flow_state, queue_of, to_old, unlisted, with_flow_state}
use Rattle.fair_core.specs.FairQueueing.{is_listed, with_flow_listed}
use Rattle.fair_core.specs.TurnBound.{quanta_owed}
use Rattle.fair_core.specs.Turns.{Chain, Does, Policy, Sends, Service, Turn, TurnKind, TurnMade, service_by}
use Rattle.fair_core.specs.Turns.TurnKind.{used_up, emptied, serving}
use Rattle.fair_core.proofs.FairFifo.{within_from_packet}
use Rattle.fair_core.proofs.ListedFlowLemmas.{IsHead, apart_from_any, by_head, listed_from_head, others}
use Rattle.fair_core.proofs.ServingChains.{head_fits, raised_owed, turn_lowers}
use Rattle.fair_core.proofs.TurnLemmas.{queues_stay, sends_of}
use Rattle.fair_core.proofs.OldFlows.{Has}
use Rattle.fair_core.proofs.ChainShares.{credits_of}
use Rattle.fair_core.proofs.CreditRanges.{at_place}
use Rattle.fair_core.proofs.OldFlows.{has_differs, has_left, has_right}
use Rattle.flow_core.proofs.FlowNumberLemmas.{length-le_flows}
use Rattle.fair_core.proofs.FlowsAhead.{ahead_has}
use Rattle.fair_core.proofs.PacketsAhead.{Waits, arrives, new_passes, new_sends, old_leaves, old_passes, old_sends, raised, waits_owed}
use Rattle.fair_core.proofs.PacketsAhead.Waits.{in_new, in_old}

-- CREDITS

-- how many bytes are left of credits
abbrev pub left_of : ℤ → ℕ
left_of (pos n) = n
left_of (negsuc n) = 0

pub left_most : (q : ℕ) (z : ℤ) → z ≤ℤ pos q → left_of z ≤ q
left_most q (pos n) le = omega (arith, ints)
left_most q (negsuc n) le = omega arith

left_below : (z : ℤ) (n : ℕ) → z <ℤ pos n → 0 < n → left_of z < n
left_below (pos k) n less some = omega (arith, ints)
left_below (negsuc k) n less some = omega arith

-- a packet uses credits
left_less : (z : ℤ) (len : ℕ) → pos 0 <ℤ z → 1 ≤ len → left_of (z -ℤ pos len) + 1 ≤ left_of z
left_less (pos zero) len some one = absurd (omega (arith, ints))
left_less (pos (suc n)) len some one = let e = left_below (pos (suc n) -ℤ pos len) (suc n) (omega (arith, ints)) (omega arith) in omega arith
left_less (negsuc n) len some one = absurd (omega (arith, ints))

module _ (p : Policy) (some_quantum : 0 < p.quantum) (flows f : ℕ) where
  abbrev pub round_of : ℕ
  round_of = 2 * p.quantum * (flows - 1)

  abbrev pub left_in : FairQueues → ℕ → ℕ
  left_in s x = left_of (credits_of s x)

  abbrev pub WaitsIn : FairQueues → ℕ → Type 0
  WaitsIn s n = Waits flows p.quantum round_of f (left_in s) (quanta_owed p.quantum (credits_of s f)) s.lists.new_flows s.lists.old_flows n

  -- flows that are sound, so many, with a quantum of credits at most
  pub record Fit (s : FairQueues) : Type 0 where
    pub sound : AreSound s
    pub as_many : length s.lists.queues ≡ flows
    pub high : (x : ℕ) → credits_of s x ≤ℤ pos p.quantum

  pub listed_few : (s : FairQueues) → AreSound s → length s.lists.queues ≡ flows → length s.lists.new_flows + length s.lists.old_flows ≤ flows
  listed_few s sound many =
      let few = length-le_flows (length s.lists.queues) (s.lists.new_flows ++ s.lists.old_flows) (record { within = sound.listed.within; once = sound.listed.once }) in
      let len = length-append s.lists.new_flows s.lists.old_flows in
      omega arith

  -- flow states

  module _ (s : FairQueues) (lists : FlowLists) (flow : ℕ) (flow_state : FlowState) where
    credits_here : flow < length s.flow_states → credits_of (with_flow_state s lists flow flow_state) flow ≡ flow_state.credits
    credits_here within = ap (λ (a : FlowState). a.credits) (get_or-set_same s.flow_states flow flow_state new_flow_state within)

    credits_there : (x : ℕ) → x ≢ flow → credits_of (with_flow_state s lists flow flow_state) x ≡ credits_of s x
    credits_there x other = ap (λ (a : FlowState). a.credits) (get_or-set_other s.flow_states flow x flow_state new_flow_state other)

  -- A TURN THAT DOESN'T SERVE

  abbrev Passes : FlowLists → Head → Type 0
  Passes lists head = (c c' : ℕ → ℕ) (owed n : ℕ) → ((x : ℕ) → x ≢ head.flow → c' x ≡ c x) → AllByRecursion (λ x. x ≢ head.flow) (others lists head) → head.flow ≢ f
      → (from : FlowList) → (head.from ≡ New → from ≡ New)
      → Waits flows p.quantum round_of f c owed lists.new_flows lists.old_flows n
      → Waits flows p.quantum round_of f c' owed (emptied_by from lists head).new_flows (emptied_by from lists head).old_flows n

  passes_by : (lists : FlowLists) (head : Head) → IsHead lists head → Passes lists head
  passes_by = by_head Passes of_new of_old
    where
      of_new : (queues : List (List Waiting)) (h : ℕ) (rest old : List ℕ) → Passes (record { queues = queues; new_flows = h ∷ rest; old_flows = old }) (record { flow = h; from = New })
      of_new queues h rest old c c' owed n same apart other New to w = new_passes flows p.quantum round_of f c c' h same owed rest old n apart other w
      of_new queues h rest old c c' owed n same apart other Old to w = let e : Old ≡ New = to refl in absurd cc

      of_old : (queues : List (List Waiting)) (h : ℕ) (rest : List ℕ) → Passes (record { queues = queues; new_flows = []; old_flows = h ∷ rest }) (record { flow = h; from = Old })
      of_old queues h rest c c' owed n same apart other New to w = old_passes flows p.quantum round_of f c c' h same owed rest n apart other w
      of_old queues h rest c c' owed n same apart other Old to w = old_leaves flows p.quantum round_of f c c' h same owed rest n apart other w

  others_few : (s : FairQueues) (head : Head) → AreSound s → length s.lists.queues ≡ flows → IsHead s.lists head → length (others s.lists head) + 1 ≤ flows
  others_few s head sound many at =
      let few = listed_few s sound many in
      let e = ap length (listed_from_head s.lists head at) in
      let len = length-append s.lists.new_flows s.lists.old_flows in
      omega arith

  turn_waits : (now : ℕ) (s next : FairQueues) (made : TurnMade) (n : ℕ) → Fit s → Turn p now s made next → service_by made.kind ≡ None → 0 < length (queue_of s f) → WaitsIn s n → WaitsIn next n
  turn_waits now s next made n fit t unserved some w = elim (cases_eq made.head.flow f) [ inl is ↦ own made.kind t.does unserved is | inr other ↦ go made.kind t.does unserved other ]
    where
      head : Head
      head = made.head

      apart : AllByRecursion (λ x. x ≢ made.head.flow) (others s.lists made.head)
      apart = recursion_from_All (λ x. x ≢ made.head.flow) (others s.lists made.head) (head_fits s made.head fit.sound t.looks).apart

      passed : (from : FlowList) → (made.head.from ≡ New → from ≡ New) → (flow_state : FlowState) → made.head.flow ≢ f → next ≡ with_flow_state s (emptied_by from s.lists made.head) made.head.flow flow_state → WaitsIn next n
      passed from to flow_state other is =
          let lists = emptied_by from s.lists made.head in
          let same = credits_there s lists made.head.flow flow_state in
          let left = passes_by s.lists made.head t.looks (left_in s) (left_in (with_flow_state s lists made.head.flow flow_state)) (quanta_owed p.quantum (credits_of s f)) n
          (λ x ne. ap left_of (same x ne)) apart other from to w in
          rw (is, same f (λ e. other (sym e))) left

      go : (kind : TurnKind) → Does p now s made.head kind next → service_by kind ≡ None → made.head.flow ≢ f → WaitsIn next n
      go used_up d none other = passed New (λ _. refl) (record (flow_state_at s made.head.flow) { credits = (flow_state_at s made.head.flow).credits +ℤ pos p.quantum }) other d.leaves
      go emptied d none other = passed made.head.from (λ e. e) (record (flow_state_at s made.head.flow) { codel = d.codel }) other d.leaves
      go (serving service) d none other = absurd cc

      own_raised : (flow_state : FlowState) → credits_of (with_flow_state s (to_old s.lists made.head) made.head.flow flow_state) made.head.flow ≡ (flow_state_at s made.head.flow).credits +ℤ pos p.quantum → (flow_state_at s made.head.flow).credits ≤ℤ pos 0 → made.head.flow ≡ f
          → WaitsIn (with_flow_state s (to_old s.lists made.head) made.head.flow flow_state) n
      own_raised flow_state here none is =
          let lists = to_old s.lists made.head in
          let nxt = with_flow_state s lists made.head.flow flow_state in
          let each : (x : ℕ) → left_of (credits_of nxt x) ≤ p.quantum = λ x.
          left_most p.quantum (credits_of nxt x)
          (elim (cases_eq x made.head.flow) [
            | inl e ↦ let high : credits_of nxt made.head.flow ≤ℤ pos p.quantum = rw here (omega (arith, ints)) in subst (λ y. credits_of nxt y ≤ℤ pos p.quantum) (sym e) high
            | inr ne ↦ rw (credits_there s lists made.head.flow flow_state x ne) (fit.high x)
          ]) in
          let owed : suc (quanta_owed p.quantum (credits_of nxt made.head.flow)) ≡ quanta_owed p.quantum (credits_of s made.head.flow) = rw here (let less = raised_owed p.quantum (credits_of s made.head.flow) some_quantum none in omega arith) in
          let owed_f = subst (λ y. suc (quanta_owed p.quantum (credits_of nxt y)) ≡ quanta_owed p.quantum (credits_of s y)) is owed in
          let few = others_few s made.head fit.sound fit.as_many t.looks in
          let new = (unlisted s.lists made.head).new_flows in
          let old = (unlisted s.lists made.head).old_flows in
          let len = length-append new old in
          let all = waits_owed flows p.quantum round_of f (left_in s) (quanta_owed p.quantum (credits_of s f)) s.lists.new_flows s.lists.old_flows n w in
          let le : suc (quanta_owed p.quantum (credits_of nxt f)) * round_of ≤ n = rw owed_f all in
          subst (λ y. Waits flows p.quantum round_of f (left_in nxt) (quanta_owed p.quantum (credits_of nxt f)) new (old ++ y ∷ []) n) (sym is)
          (raised flows p.quantum round_of f refl (left_in nxt) each (quanta_owed p.quantum (credits_of nxt f)) new old n (omega arith) le)

      own : (kind : TurnKind) → Does p now s made.head kind next → service_by kind ≡ None → made.head.flow ≡ f → WaitsIn next n
      own used_up d none is =
          let flow_state = record (flow_state_at s made.head.flow) { credits = (flow_state_at s made.head.flow).credits +ℤ pos p.quantum } in
          let lists = to_old s.lists made.head in
          let here = credits_here s lists made.head.flow flow_state (rw fit.sound.flow_states (head_fits s made.head fit.sound t.looks).within) in
          rw d.leaves (own_raised flow_state here d.credits is)
      own emptied d none is = let e : length (queue_of s f) ≡ 0 = rw (← is) (ap length d.empty) in absurd (omega arith)
      own (serving service) d none is = absurd cc

  -- behind it the flows fit too
  turn_fit : (now : ℕ) (s next : FairQueues) (made : TurnMade) → Fit s → Turn p now s made next → service_by made.kind ≡ None → Fit next
  turn_fit now s next made fit t unserved = record {
    sound = (turn_lowers p some_quantum now s next made fit.sound t unserved).0;
    as_many = ap length (queues_stay p now s next made t unserved) ∙ fit.as_many;
    high = go made.kind t.does unserved;
  }
    where
      changed : (lists : FlowLists) (flow_state : FlowState) → flow_state.credits ≤ℤ pos p.quantum → next ≡ with_flow_state s lists made.head.flow flow_state → (x : ℕ) → credits_of next x ≤ℤ pos p.quantum
      changed lists flow_state most is x =
          rw is
          (elim (cases_eq x made.head.flow) [
            | inl e ↦ rw (e, credits_here s lists made.head.flow flow_state (rw fit.sound.flow_states (head_fits s made.head fit.sound t.looks).within)) most
            | inr ne ↦ rw (credits_there s lists made.head.flow flow_state x ne) (fit.high x)
          ])

      go : (kind : TurnKind) → Does p now s made.head kind next → service_by kind ≡ None → (x : ℕ) → credits_of next x ≤ℤ pos p.quantum
      go used_up d none = let low = d.credits in changed (to_old s.lists made.head) (record (flow_state_at s made.head.flow) { credits = (flow_state_at s made.head.flow).credits +ℤ pos p.quantum }) (omega (arith, ints)) d.leaves
      go emptied d none = changed (emptied_by made.head.from s.lists made.head) (record (flow_state_at s made.head.flow) { codel = d.codel }) (fit.high made.head.flow) d.leaves
      go (serving service) d none = absurd cc

  -- A TURN THAT SERVES ANOTHER FLOW

  abbrev SentBy : FlowLists → Head → Type 0
  SentBy lists head = (c c' : ℕ → ℕ) (owed n : ℕ) → ((x : ℕ) → x ≢ head.flow → c' x ≡ c x) → AllByRecursion (λ x. x ≢ head.flow) (others lists head) → head.flow ≢ f → c' head.flow + 1 ≤ c head.flow
      → Waits flows p.quantum round_of f c owed lists.new_flows lists.old_flows n
      → (m : ℕ) × (m + 1 ≤ n) × Waits flows p.quantum round_of f c' owed lists.new_flows lists.old_flows m

  sent_by : (lists : FlowLists) (head : Head) → IsHead lists head → SentBy lists head
  sent_by =
      by_head SentBy
      (λ queues h rest old. λ c c' owed n same apart other less w. new_sends flows p.quantum round_of f c c' h same owed rest old n apart other less w)
      (λ queues h rest. λ c c' owed n same apart other less w. old_sends flows p.quantum round_of f c c' h same owed rest n apart other less w)

  abbrev HasBytes : Waiting → Type 0
  HasBytes w = 1 ≤ w.packet.len

  send_waits : (now : ℕ) (s next : FairQueues) (head : Head) (service : Service) (n : ℕ) → Fit s → IsHead s.lists head → Sends p now s head service next → ((x : ℕ) → AllByRecursion HasBytes (queue_of s x)) → head.flow ≢ f → WaitsIn s n
      → (m : ℕ) × (m + 1 ≤ n) × WaitsIn next m
  send_waits now s next head service n fit at d bytes other w = rw d.leaves left
    where
      lists : FlowLists
      lists = with_queue s.lists head.flow (drop (d.drops + 1) (queue_of s head.flow))

      flow_state : FlowState
      flow_state = record { credits = (flow_state_at s head.flow).credits -ℤ pos service.given.waiting.packet.len; codel = d.codel }

      within : head.flow < length s.flow_states
      within = rw fit.sound.flow_states (within_from_packet s.lists.queues head.flow d.drops service.given.waiting d.stands)

      some : 1 ≤ service.given.waiting.packet.len
      some = at_place HasBytes d.drops (queue_of s head.flow) service.given.waiting (bytes head.flow) d.stands

      less : left_in (with_flow_state s lists head.flow flow_state) head.flow + 1 ≤ left_in s head.flow
      less = rw (credits_here s lists head.flow flow_state within) (left_less ((flow_state_at s head.flow).credits) (service.given.waiting.packet.len) d.credits some)

      left : (m : ℕ) × (m + 1 ≤ n) × WaitsIn (with_flow_state s lists head.flow flow_state) m
      left =
          let same = credits_there s lists head.flow flow_state in
          let apart = recursion_from_All (λ x. x ≢ head.flow) (others s.lists head) (head_fits s head fit.sound at).apart in
          rw (same f (λ e. other (sym e)))
          (sent_by s.lists head at (left_in s) (left_in (with_flow_state s lists head.flow flow_state)) (quanta_owed p.quantum (credits_of s f)) n (λ x ne. ap left_of (same x ne)) apart other less w)

  -- A SERVING CHAIN

  -- the flow itself would lose a packet
  own_shorter : (now : ℕ) (s next : FairQueues) (head : Head) (service : Service) → Sends p now s head service next → head.flow ≡ f → length (queue_of s f) ≤ length (queue_of next f) → ⊥
  own_shorter now s next head service d is longer =
      let place = slice_get_within (queue_of s head.flow) d.drops service.given.waiting d.stands in
      let within = within_from_packet s.lists.queues head.flow d.drops service.given.waiting d.stands in
      let left : queue_of next head.flow ≡ drop (d.drops + 1) (queue_of s head.flow) = ap (λ (x : FairQueues). queue_of x head.flow) d.leaves ∙ get_or-set_same s.lists.queues head.flow (drop (d.drops + 1) (queue_of s head.flow)) [] within in
      let len = ap length left ∙ length-drop (d.drops + 1) (queue_of s head.flow) in
      let longer' = subst (λ y. length (queue_of s y) ≤ length (queue_of next y)) (sym is) longer in
      omega arith

  no_head : (s : FairQueues) (n : ℕ) → head_of s ≡ None → WaitsIn s n → ⊥
  no_head s n none w = go s.lists.new_flows s.lists.old_flows none w
    where
      go : (new old : List ℕ) → head_of_lists new old ≡ None → Waits flows p.quantum round_of f (left_in s) (quanta_owed p.quantum (credits_of s f)) new old n → ⊥
      go (x ∷ new) old is w = absurd cc
      go [] (x ∷ old) is w = absurd cc
      go [] [] is (in_new m a le) = a
      go [] [] is (in_old m u a few le) = a

  -- sends a packet of another flow
  pub chain_waits : (now : ℕ) (turns : List TurnMade) (s new : FairQueues) (n : ℕ) → Chain p now s turns new → Fit s → ((x : ℕ) → AllByRecursion HasBytes (queue_of s x)) → 0 < length (queue_of s f) → length (queue_of s f) ≤ length (queue_of new f) → WaitsIn s n
      → (m : ℕ) × (m + 1 ≤ n) × WaitsIn new m
  chain_waits now [] s new n c fit bytes some longer w = absurd (no_head s n c.0 w)
  chain_waits now (made ∷ more) s new n (inl c) fit bytes some longer w =
      let d = sends_of p now s new made c.0 c.3 c.1 in
      send_waits now s new made.head c.0 n fit c.3.looks d bytes (λ is. own_shorter now s new made.head c.0 d is longer) w
  chain_waits now (made ∷ more) s new n (inr c) fit bytes some longer w =
      let next = c.0 in
      let same = queues_stay p now s next made c.2 c.1 in
      chain_waits now more next new n c.3 (turn_fit now s next made fit c.2 c.1) (λ x. rw same (bytes x)) (rw same some) (rw same longer) (turn_waits now s next made n fit c.2 c.1 some w)

  -- AN ARRIVAL

  waits_listed : (s : FairQueues) (n : ℕ) → WaitsIn s n → Has (s.lists.new_flows ++ s.lists.old_flows) f
  waits_listed s n (in_new m a le) = has_left s.lists.new_flows s.lists.old_flows f (ahead_has (left_in s) f s.lists.new_flows m a)
  waits_listed s n (in_old m u a few le) = has_right s.lists.new_flows s.lists.old_flows f (ahead_has (λ h. left_in s h + p.quantum) f s.lists.old_flows m a)

  pub arrival_waits : (s : FairQueues) (flow n : ℕ) → length (with_flow_listed p s flow).lists.new_flows + length (with_flow_listed p s flow).lists.old_flows ≤ flows → flow < length s.flow_states → WaitsIn s n → WaitsIn (with_flow_listed p s flow) n
  arrival_waits s flow n all_few within w = elim (cases_Bool (is_listed s flow)) [ inl t ↦ rw t w | inr t ↦ comes t ]
    where
      flow_state : FlowState
      flow_state = record (flow_state_at s flow) { credits = pos p.quantum }

      lists : FlowLists
      lists = record s.lists { new_flows = s.lists.new_flows ++ flow ∷ [] }

      few : is_listed s flow ≡ false → length (s.lists.new_flows ++ flow ∷ []) + length s.lists.old_flows ≤ flows
      few t = rw t at all_few

      comes : is_listed s flow ≡ false → WaitsIn (with_flow_listed p s flow) n
      comes t =
          let apart = apart_from_any flow (s.lists.new_flows ++ s.lists.old_flows) t in
          let has = waits_listed s n w in
          let other : f ≢ flow = λ e. has_differs (s.lists.new_flows ++ s.lists.old_flows) flow apart (subst (Has (s.lists.new_flows ++ s.lists.old_flows)) e has) in
          let same = credits_there s lists flow flow_state in
          let most : left_in (with_flow_state s lists flow flow_state) flow ≤ p.quantum = rw (credits_here s lists flow flow_state within) (omega arith) in
          let len = length_push s.lists.new_flows flow in
          let few' = few t in
          rw t
          (rw (same f other)
          (arrives flows p.quantum round_of f (left_in s) (left_in (with_flow_state s lists flow flow_state)) flow (λ x ne. ap left_of (same x ne)) (quanta_owed p.quantum (credits_of s f)) s.lists.new_flows s.lists.old_flows n apart most (omega arith) w))
