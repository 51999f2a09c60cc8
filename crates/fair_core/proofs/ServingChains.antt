-- Serving chains: from flows that are sound there is one and no other, and its length has a bound.
use Rattle.std.proofs.Common.{◌≡◌, ◌≢◌, ℕ, zero, suc, ◌+◌, ◌<◌, ◌≤◌, List, [], ◌∷◌, All, get_or, set, length, sum_by, Option, Some, None, ℤ, pos, ◌+ℤ◌, ◌≤ℤ◌, refl, sym, ap, subst, ◌∙◌, inl, inr, arith, append_assoc}
use Rattle.std.proofs.lemmas.Int.{ints}
use Rattle.std.proofs.lemmas.List.{get_or-set_other, get_or-set_same, length-set}
use Rattle.std.proofs.lemmas.List.Elements.{All-from_recursion, All-head, All-push, All-tail, recursion_from_All}
use Rattle.std.proofs.lemmas.List.Sums.{sum_by-cons, sum_by_push}
use Rattle.flow_core.specs.FlowLists.{AreDistinct, FlowLists}
use Rattle.fair_core.specs.declared.flow_state.FlowState.{FlowState}
use Rattle.fair_core.specs.declared.fair_queue.FlowList.{FlowList}
use Rattle.fair_core.specs.declared.fair_queue.FlowList.TheVariants.{New, Old}
use Rattle.fair_core.specs.declared.fair_queue.Head.{Head}
use Rattle.fair_core.specs.FairQueues.{AreSound, FairQueues, flow_state_at, emptied_by, head_of, new_flow_state, unlisted, with_flow_state}
use Rattle.fair_core.specs.Policies.{IsDecided}
use Rattle.fair_core.specs.TurnBound.{AreQuantaOwed, quanta_owed, turns_at_most}
use Rattle.fair_core.specs.Turns.{Chain, Does, Policy, Service, Turn, TurnKind, TurnMade, service_by}
use Rattle.fair_core.specs.Turns.TurnKind.{used_up, emptied, serving}
use Rattle.journal_core.proofs.ListLemmas.{ByRecursion-parts, ByRecursion-weaker, sum_by_agree_on}
use Rattle.fair_core.proofs.ListedFlowLemmas.{IsHead, by_head, distinct_push, listed_from_head, others}
use Rattle.fair_core.proofs.TurnBoundLemmas.{one_owed_less, owed_once, quanta_owed_is}
use Rattle.fair_core.proofs.TurnLemmas.{turn_once, turn_there}

-- A listed head is a flow, and stands in no list behind it.
pub record HeadFits (s : FairQueues) (head : Head) : Type 0 where
  pub within : head.flow < length s.lists.queues
  pub apart : All (λ other. other ≢ head.flow) (others s.lists head)
  pub rest_within : All (λ flow. flow < length s.lists.queues) (others s.lists head)
  pub rest_once : AreDistinct (others s.lists head)

pub head_fits : (s : FairQueues) (head : Head) → AreSound s → IsHead s.lists head → HeadFits s head
head_fits s head sound at =
    let e = listed_from_head s.lists head at in
    let within = subst (λ flows. All (λ flow. flow < length s.lists.queues) flows) e sound.listed.within in
    let once = subst AreDistinct e sound.listed.once in
    record {
      within = All-head (λ flow. flow < length s.lists.queues) head.flow (others s.lists head) within;
      apart = once.0;
      rest_within = All-tail (λ flow. flow < length s.lists.queues) head.flow (others s.lists head) within;
      rest_once = once.1;
    }

-- Behind a turn that doesn't serve, the flow stands at the end of the list of old flows or in no list.
module _ (s : FairQueues) (head : Head) (flow_state : FlowState) (sound : AreSound s) (at : IsHead s.lists head) where
  sound_behind : (from : FlowList) → AreSound (with_flow_state s (emptied_by from s.lists head) head.flow flow_state)
  sound_behind New =
      let fits = head_fits s head sound at in
      let e = append_assoc (unlisted s.lists head).new_flows (unlisted s.lists head).old_flows (head.flow ∷ []) in
      record {
        listed = record {
          within = rw (← e) (All-push (λ flow. flow < length s.lists.queues) (others s.lists head) head.flow fits.rest_within fits.within);
          once = rw (← e) (distinct_push head.flow (others s.lists head) fits.apart fits.rest_once);
        };
        flow_states = length-set s.flow_states head.flow flow_state ∙ sound.flow_states;
      }
  sound_behind Old =
      let fits = head_fits s head sound at in
      record {
        listed = record { within = fits.rest_within; once = fits.rest_once };
        flow_states = length-set s.flow_states head.flow flow_state ∙ sound.flow_states;
      }

-- THE BOUND

-- how many turns a flow at the head may take beside those for quanta
abbrev extra : FlowList → ℕ
extra New = 2
extra Old = 1

-- how many turns it may take once it left the head of that list without a packet, and quanta are owed to it
abbrev left_for : FlowList → ℕ → ℕ
left_for New owed = owed + 1
left_for Old owed = 0

less_left : (from : FlowList) (owed : ℕ) → left_for from owed + 1 ≤ owed + extra from
less_left New owed = omega arith
less_left Old owed = omega arith

some_extra : (from : FlowList) → 1 ≤ extra from
some_extra New = omega arith
some_extra Old = omega arith

-- how many turns the flows of a list may take
module _ (quantum : ℕ) where
  abbrev owed : List FlowState → ℕ → ℕ
  owed flow_states flow = quanta_owed quantum ((get_or flow_states flow new_flow_state).credits)

  abbrev turns_in : ℕ → List FlowState → List ℕ → ℕ
  turns_in more flow_states flows = sum_by (λ flow. owed flow_states flow + more) flows

  -- a change of another flow's flow state does not matter
  turns_in_same : (more : ℕ) (flow_states : List FlowState) (flow : ℕ) (flow_state : FlowState) (flows : List ℕ) → All (λ other. other ≢ flow) flows → turns_in more (set flow_states flow flow_state) flows ≡ turns_in more flow_states flows
  turns_in_same more flow_states flow flow_state flows apart =
      sum_by_agree_on (λ f. owed (set flow_states flow flow_state) f + more) (λ f. owed flow_states f + more) flows
      (ByRecursion-weaker (λ f. f ≢ flow) (λ f. owed (set flow_states flow flow_state) f + more ≡ owed flow_states f + more) flows
      (λ f other. ap (λ (a : FlowState). quanta_owed quantum a.credits + more) (get_or-set_other flow_states flow f flow_state new_flow_state other))
      (recursion_from_All (λ f. f ≢ flow) flows apart))

  -- the turns of the flows behind the head
  abbrev turns_behind : List FlowState → FlowLists → Head → ℕ
  turns_behind flow_states lists head = turns_in 2 flow_states (unlisted lists head).new_flows + turns_in 1 flow_states (unlisted lists head).old_flows

  bound_before : (flow_states : List FlowState) (lists : FlowLists) (head : Head) → IsHead lists head
      → turns_at_most quantum (record { lists = lists; flow_states = flow_states }) ≡ owed flow_states head.flow + extra head.from + turns_behind flow_states lists head
  bound_before flow_states =
      by_head (λ lists head. turns_at_most quantum (record { lists = lists; flow_states = flow_states }) ≡ owed flow_states head.flow + extra head.from + turns_behind flow_states lists head)
      (λ queues flow rest old. let first = sum_by-cons (λ f. owed flow_states f + 2) flow rest in omega arith)
      (λ queues flow rest. let first = sum_by-cons (λ f. owed flow_states f + 1) flow rest in omega arith)

  -- and behind one, once the flow left the head as an emptied flow of that list does
  module _ (s : FairQueues) (head : Head) (flow_state : FlowState) (sound : AreSound s) (at : IsHead s.lists head) where
    moved : (from : FlowList) → turns_at_most quantum (with_flow_state s (emptied_by from s.lists head) head.flow flow_state) ≡ turns_behind (set s.flow_states head.flow flow_state) s.lists head + left_for from (owed (set s.flow_states head.flow flow_state) head.flow)
    moved New = let last = sum_by_push (λ flow. owed (set s.flow_states head.flow flow_state) flow + 1) (unlisted s.lists head).old_flows head.flow in omega arith
    moved Old = omega arith

    bound_behind : (from : FlowList) → turns_at_most quantum (with_flow_state s (emptied_by from s.lists head) head.flow flow_state) ≡ turns_behind s.flow_states s.lists head + left_for from (quanta_owed quantum flow_state.credits)
    bound_behind from =
        let fits = head_fits s head sound at in
        let flows = unlisted s.lists head in
        let apart = ByRecursion-parts (λ other. other ≢ head.flow) flows.new_flows flows.old_flows (recursion_from_All (λ other. other ≢ head.flow) (others s.lists head) fits.apart) in
        let new = turns_in_same 2 s.flow_states head.flow flow_state flows.new_flows (All-from_recursion (λ other. other ≢ head.flow) flows.new_flows apart.0) in
        let old = turns_in_same 1 s.flow_states head.flow flow_state flows.old_flows (All-from_recursion (λ other. other ≢ head.flow) flows.old_flows apart.1) in
        let own = ap (λ (a : FlowState). left_for from (quanta_owed quantum a.credits)) (get_or-set_same s.flow_states head.flow flow_state new_flow_state (rw sound.flow_states fits.within)) in
        let after = moved from in
        omega arith

-- once a flow without credits got a quantum more, it is owed one less
pub raised_owed : (quantum : ℕ) (credits : ℤ) → 0 < quantum → credits ≤ℤ pos 0 → quanta_owed quantum (credits +ℤ pos quantum) + 1 ≡ quanta_owed quantum credits
raised_owed quantum credits some none = go (quanta_owed quantum credits) refl
  where
    go : (n : ℕ) → quanta_owed quantum credits ≡ n → quanta_owed quantum (credits +ℤ pos quantum) + 1 ≡ quanta_owed quantum credits
    go zero is = let enough = (subst (AreQuantaOwed quantum credits) is (quanta_owed_is quantum credits some)).enough in absurd (omega (arith, ints))
    go (suc n) is =
        let less = one_owed_less quantum credits n (subst (AreQuantaOwed quantum credits) is (quanta_owed_is quantum credits some)) in
        let same = owed_once quantum (credits +ℤ pos quantum) _ n (quanta_owed_is quantum (credits +ℤ pos quantum) some) less in
        omega arith

module _ (p : Policy) (some_quantum : 0 < p.quantum) (now : ℕ) where
  -- what a turn that doesn't serve leaves is sound, and may take a turn less
  abbrev Lower : FairQueues → FairQueues → Type 0
  Lower s next = AreSound next × (turns_at_most p.quantum next + 1 ≤ turns_at_most p.quantum s)

  pub turn_lowers : (s next : FairQueues) (made : TurnMade) → AreSound s → Turn p now s made next → service_by made.kind ≡ None → Lower s next
  turn_lowers s next made sound t unserved = go made.kind t.does unserved
    where
      left : (from : FlowList) (flow_state : FlowState) → next ≡ with_flow_state s (emptied_by from s.lists made.head) made.head.flow flow_state → left_for from (quanta_owed p.quantum flow_state.credits) + 1 ≤ owed p.quantum s.flow_states made.head.flow + extra made.head.from → Lower s next
      left from flow_state is less =
          let before = bound_before p.quantum s.flow_states s.lists made.head t.looks in
          let after = bound_behind p.quantum s made.head flow_state sound t.looks from in
          rw is (sound_behind s made.head flow_state sound t.looks from, omega arith)

      go : (kind : TurnKind) → Does p now s made.head kind next → service_by kind ≡ None → Lower s next
      go used_up d none =
          let less = raised_owed p.quantum ((flow_state_at s made.head.flow).credits) some_quantum d.credits in
          let more = some_extra made.head.from in
          left New (record (flow_state_at s made.head.flow) { credits = (flow_state_at s made.head.flow).credits +ℤ pos p.quantum }) d.leaves (omega arith)
      go emptied d none = left made.head.from (record (flow_state_at s made.head.flow) { codel = d.codel }) d.leaves (less_left made.head.from (owed p.quantum s.flow_states made.head.flow))
      go (serving service) d none = absurd cc

  -- one turn at least may be made where a flow is listed
  turn_left : (s : FairQueues) (head : Head) → head_of s ≡ Some head → 1 ≤ turns_at_most p.quantum s
  turn_left s head at = let before = bound_before p.quantum s.flow_states s.lists head at in let some = some_extra head.from in omega arith

  -- the bound on turns
  pub chain_bound : (turns : List TurnMade) (s new : FairQueues) → AreSound s → Chain p now s turns new → length turns ≤ turns_at_most p.quantum s
  chain_bound [] s new sound c = omega arith
  chain_bound (made ∷ more) s new sound (inl c) = let left = turn_left s made.head c.3.looks in let last = ap length c.2 in omega arith
  chain_bound (made ∷ more) s new sound (inr c) =
      let lower = turn_lowers s c.0 made sound c.2 c.1 in
      let less = lower.1 in
      let rest = chain_bound more c.0 new lower.0 c.3 in
      omega arith

-- THE CHAIN

module _ (p : Policy) (decided : IsDecided p) (now : ℕ) where
  -- there is one
  abbrev ChainThere : FairQueues → Type 0
  ChainThere s = (turns : List TurnMade) × (new : FairQueues) × Chain p now s turns new

  one_more : (s : FairQueues) → AreSound s → ((next : FairQueues) → AreSound next → turns_at_most p.quantum next < turns_at_most p.quantum s → ChainThere next) → ChainThere s
  one_more s sound shorter = go (head_of s) refl
    where
      goes_on : (made : TurnMade) (next : FairQueues) → Turn p now s made next → (o : Option Service) → service_by made.kind ≡ o → ChainThere s
      goes_on made next t None unserved =
          let lower = turn_lowers p decided.quantum now s next made sound t unserved in
          let less = lower.1 in
          let rest = shorter next lower.0 (omega arith) in
          (made ∷ rest.0, rest.1, inr (next, unserved, t, rest.2))
      goes_on made next t (Some service) served = (made ∷ [], next, inl (service, served, refl, t))

      go : (h : Option Head) → head_of s ≡ h → ChainThere s
      go None at = ([], s, (at, refl))
      go (Some head) at = let t = turn_there p decided now s head at in goes_on t.0 t.1 t.2 (service_by t.0.kind) refl

  chain_within : (most : ℕ) (s : FairQueues) → AreSound s → turns_at_most p.quantum s ≤ most → ChainThere s
  chain_within zero s sound few = one_more s sound (λ next sound' less. absurd (omega arith))
  chain_within (suc most) s sound few = one_more s sound (λ next sound' less. chain_within most next sound' (omega arith))

  pub chain_there : (s : FairQueues) → AreSound s → ChainThere s
  chain_there s sound = chain_within (turns_at_most p.quantum s) s sound (omega arith)

  -- and no other
  idle_makes_none : (s next : FairQueues) (made : TurnMade) → head_of s ≡ None → Turn p now s made next → ⊥
  idle_makes_none s next made none t = let e : None ≡ Some made.head = sym none ∙ t.looks in absurd cc

  serves_or_not : (made made' : TurnMade) (service : Service) → made ≡ made' → service_by made.kind ≡ Some service → service_by made'.kind ≡ None → ⊥
  serves_or_not made made' service same some none = let e : Some service ≡ None = sym some ∙ ap (λ (m : TurnMade). service_by m.kind) same ∙ none in absurd cc

  pub chain_once : (turns turns' : List TurnMade) (s new new' : FairQueues) → Chain p now s turns new → Chain p now s turns' new' → (turns ≡ turns') × (new ≡ new')
  chain_once [] [] s new new' c c' = (refl, c.1 ∙ sym c'.1)
  chain_once [] (made' ∷ more') s new new' c (inl c') = absurd (idle_makes_none s new' made' c.0 c'.3)
  chain_once [] (made' ∷ more') s new new' c (inr c') = absurd (idle_makes_none s c'.0 made' c.0 c'.2)
  chain_once (made ∷ more) [] s new new' (inl c) c' = absurd (idle_makes_none s new made c'.0 c.3)
  chain_once (made ∷ more) [] s new new' (inr c) c' = absurd (idle_makes_none s c.0 made c'.0 c.2)
  chain_once (made ∷ more) (made' ∷ more') s new new' (inl c) (inl c') =
      let same = turn_once p decided now s made made' new new' c.3 c'.3 in
      ((λ i. same.0 i ∷ (c.2 ∙ sym c'.2) i), same.1)
  chain_once (made ∷ more) (made' ∷ more') s new new' (inl c) (inr c') = absurd (serves_or_not made made' c.0 (turn_once p decided now s made made' new c'.0 c.3 c'.2).0 c.1 c'.1)
  chain_once (made ∷ more) (made' ∷ more') s new new' (inr c) (inl c') = absurd (serves_or_not made' made c'.0 (turn_once p decided now s made' made new' c.0 c'.3 c.2).0 c'.1 c.1)
  chain_once (made ∷ more) (made' ∷ more') s new new' (inr c) (inr c') =
      let same = turn_once p decided now s made made' c.0 c'.0 c.2 c'.2 in
      let rest = chain_once more more' c.0 new new' c.3 (subst (λ (next : FairQueues). Chain p now next more' new') (sym same.1) c'.3) in
      ((λ i. same.0 i ∷ rest.0 i), rest.1)
