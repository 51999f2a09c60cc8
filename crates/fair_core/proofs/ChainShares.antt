-- What a serving chain sends of two flows that stay in the list of old flows.
use Rattle.std.proofs.Common.{◌≡◌, ◌≢◌, ℕ, ◌+◌, ◌<◌, ◌⊎◌, List, [], ◌∷◌, ◌++◌, cond, eqb, length, get_or, drop, Some, None, slice_get, ℤ, pos, ◌+ℤ◌, ◌-ℤ◌, refl, sym, ap, subst, ◌∙◌, inl, inr, arith, append_assoc}
use Rattle.std.proofs.lemmas.Int.{ints}
use Rattle.std.proofs.lemmas.Bool.{cases_eq, eq-eqb, ne_eqb}
use Rattle.std.proofs.lemmas.List.{get_or-set_other, get_or-set_same}
use Rattle.packet_core.specs.declared.packet.Waiting.{Waiting}
use Rattle.flow_core.specs.FlowLists.{FlowLists, with_queue}
use Rattle.fair_core.specs.declared.flow_state.FlowState.{FlowState}
use Rattle.fair_core.specs.declared.fair_queue.FlowList.{FlowList}
use Rattle.fair_core.specs.declared.fair_queue.FlowList.TheVariants.{New, Old}
use Rattle.fair_core.specs.declared.fair_queue.Head.{Head}
use Rattle.fair_core.specs.FairQueues.{AreSound, FairQueues, flow_state_at, emptied_by, new_flow_state, queue_of, unlisted, with_flow_state}
use Rattle.fair_core.specs.Turns.{Chain, Does, Policy, Sends, Service, Turn, TurnKind, TurnMade, service_by, service_in}
use Rattle.fair_core.specs.Turns.TurnKind.{used_up, emptied, serving}
use Rattle.fair_core.proofs.FairFifo.{within_from_packet}
use Rattle.fair_core.proofs.ListedFlowLemmas.{IsHead, listed_from_head, others}
use Rattle.fair_core.proofs.ServingChains.{head_fits, turn_lowers}
use Rattle.fair_core.proofs.TurnLemmas.{queues_stay, sends_of}
use Rattle.fair_core.proofs.OldFlows.{Has, Moves, has_cases, has_right, lead, moves}
use Rattle.fair_core.proofs.OldFlows.Moves.{passes, takes_f, takes_g}

abbrev pub credits_of : FairQueues → ℕ → ℤ
credits_of s flow = (flow_state_at s flow).credits

-- both flows are old
abbrev pub Olds : ℕ → ℕ → FairQueues → Type 0
Olds f g s = Has s.lists.old_flows f × Has s.lists.old_flows g

-- What is sent of f, less what is sent of g, is what the credits of f lose, less what those of g lose, and a quantum
-- more where f alone was given one: then it went behind g.
abbrev pub Balanced : ℕ → ℕ → ℕ → FairQueues → ℕ → ℕ → FairQueues → Type 0
Balanced q f g old of_f of_g new =
    (credits_of old g +ℤ pos (lead q f g old.lists.old_flows + of_f)) +ℤ credits_of new f
    ≡ (credits_of new g +ℤ pos (lead q f g new.lists.old_flows + of_g)) +ℤ credits_of old f

-- how much of a packet that the flow `head` gives is of that flow
abbrev pub share_of : ℕ → ℕ → ℕ → ℕ
share_of head flow len = cond (eqb head flow) len 0

-- The turns of a chain give nothing, or one packet that stood in the queue of a flow.
abbrev pub ChainShares : ℕ → ℕ → ℕ → List TurnMade → FairQueues → FairQueues → Type 0
ChainShares q f g turns old new =
    ((service_in turns ≡ None) × Balanced q f g old 0 0 new)
    ⊎ ((head : Head) × (s : Service) × (drops : ℕ) × (service_in turns ≡ Some s)
    × (slice_get (queue_of old head.flow) drops ≡ Some s.given.waiting)
    × Balanced q f g old (share_of head.flow f s.given.waiting.packet.len) (share_of head.flow g s.given.waiting.packet.len) new)

-- the flows that are listed
abbrev pub listed : FairQueues → List ℕ
listed s = s.lists.new_flows ++ s.lists.old_flows

-- A flow that is listed behind a turn was listed before it.
module _ (p : Policy) (now : ℕ) where
  -- behind the head, where it went to the end of the list of old flows or left
  listed_before : (lists : FlowLists) (head : Head) → IsHead lists head → (from : FlowList) (x : ℕ) → Has ((emptied_by from lists head).new_flows ++ (emptied_by from lists head).old_flows) x → Has (lists.new_flows ++ lists.old_flows) x
  listed_before lists head at from x has = rw (listed_from_head lists head at) (go from has)
    where
      go : (from : FlowList) → Has ((emptied_by from lists head).new_flows ++ (emptied_by from lists head).old_flows) x → Has (head.flow ∷ others lists head) x
      go Old has = inr has
      go New has =
          let h : Has (others lists head ++ head.flow ∷ []) x = rw (append_assoc (unlisted lists head).new_flows (unlisted lists head).old_flows (head.flow ∷ [])) has in
          elim (has_cases (others lists head) (head.flow ∷ []) x h) [
            | inl k ↦ inr k
            | inr k ↦ elim k [ inl e ↦ inl e | inr none ↦ absurd none ]
          ]

  turn_listed : (old new : FairQueues) (made : TurnMade) (x : ℕ) → Turn p now old made new → Has (listed new) x → Has (listed old) x
  turn_listed old new made x t has = go made.kind t.does
    where
      go : (kind : TurnKind) → Does p now old made.head kind new → Has (listed old) x
      go used_up d = listed_before old.lists made.head t.looks New x (subst (λ (s : FairQueues). Has (listed s) x) d.leaves has)
      go emptied d = listed_before old.lists made.head t.looks made.head.from x (subst (λ (s : FairQueues). Has (listed s) x) d.leaves has)
      go (serving service) d = subst (λ (s : FairQueues). Has (listed s) x) d.leaves has

  pub chain_listed : (turns : List TurnMade) (old new : FairQueues) (x : ℕ) → Chain p now old turns new → Has (listed new) x → Has (listed old) x
  chain_listed [] old new x c has = subst (λ (s : FairQueues). Has (listed s) x) c.1 has
  chain_listed (made ∷ more) old new x (inl c) has = turn_listed old new made x c.3 has
  chain_listed (made ∷ more) old new x (inr c) has = turn_listed old c.0 made x c.2 (chain_listed more c.0 new x c.3 has)

module _ (p : Policy) (some_quantum : 0 < p.quantum) (now f g : ℕ) (differ : f ≢ g) where
  abbrev Even : FairQueues → ℕ → ℕ → FairQueues → Type 0
  Even old of_f of_g new = Balanced p.quantum f g old of_f of_g new

  -- The head went to the end of the old flows, with so many credits more, or left.
  module _ (s : FairQueues) (head : Head) (sound : AreSound s) (at : IsHead s.lists head) (olds : Olds f g s) (flow_state : FlowState) where
    within : head.flow < length s.flow_states
    within = rw sound.flow_states (head_fits s head sound at).within

    moved : (from : FlowList) → (from ≡ New → head.from ≡ Old → flow_state.credits ≡ (flow_state_at s head.flow).credits +ℤ pos p.quantum)
        → (next : FairQueues) → next ≡ with_flow_state s (emptied_by from s.lists head) head.flow flow_state → Has (listed next) f → Has (listed next) g → Olds f g next × Even s 0 0 next
    moved from raised next is in_f in_g =
        let in_f' = subst (λ (x : FairQueues). Has (listed x) f) is in_f in
        let in_g' = subst (λ (x : FairQueues). Has (listed x) g) is in_g in
        rw is (by_moves (moves p.quantum f g differ s.lists head at from sound.listed.once olds.0 olds.1 in_f' in_g'))
      where
        here : (x : ℕ) → head.flow ≡ x → credits_of (with_flow_state s (emptied_by from s.lists head) head.flow flow_state) x ≡ flow_state.credits
        here x same = rw (← same) (ap (λ (a : FlowState). a.credits) (get_or-set_same s.flow_states head.flow flow_state new_flow_state within))

        there : (x : ℕ) → head.flow ≢ x → credits_of (with_flow_state s (emptied_by from s.lists head) head.flow flow_state) x ≡ credits_of s x
        there x other = ap (λ (a : FlowState). a.credits) (get_or-set_other s.flow_states head.flow x flow_state new_flow_state (λ e. other (sym e)))

        by_moves : Moves p.quantum f g s.lists.old_flows head from (emptied_by from s.lists head).old_flows
            → Olds f g (with_flow_state s (emptied_by from s.lists head) head.flow flow_state) × Even s 0 0 (with_flow_state s (emptied_by from s.lists head) head.flow flow_state)
        by_moves (passes not_f not_g in_f in_g same) = ((in_f, in_g), rw (there f not_f, there g not_g, same) refl)
        by_moves (takes_f is_f to_end from_old in_f in_g before after) =
            let of_f = here f is_f in
            let of_g = there g (λ e. differ (sym is_f ∙ e)) in
            let more = raised to_end from_old in
            let own : (flow_state_at s head.flow).credits ≡ credits_of s f = ap (credits_of s) is_f in
            ((in_f, in_g), rw (of_f, of_g, before, after, more, own) (omega (arith, ints)))
        by_moves (takes_g is_g to_end from_old in_f in_g before after) =
            let of_g = here g is_g in
            let of_f = there f (λ e. differ (sym e ∙ is_g)) in
            let more = raised to_end from_old in
            let own : (flow_state_at s head.flow).credits ≡ credits_of s g = ap (credits_of s) is_g in
            ((in_f, in_g), rw (of_f, of_g, before, after, more, own) (omega (arith, ints)))

  turn_moves : (s next : FairQueues) (made : TurnMade) → AreSound s → Turn p now s made next → service_by made.kind ≡ None → Olds f g s → Has (listed next) f → Has (listed next) g → Olds f g next × Even s 0 0 next
  turn_moves s next made sound t unserved olds in_f in_g = go made.kind t.does unserved
    where
      go : (kind : TurnKind) → Does p now s made.head kind next → service_by kind ≡ None → Olds f g next × Even s 0 0 next
      go used_up d none = moved s made.head sound t.looks olds (record (flow_state_at s made.head.flow) { credits = (flow_state_at s made.head.flow).credits +ℤ pos p.quantum }) New (λ _ _. refl) next d.leaves in_f in_g
      go emptied d none = moved s made.head sound t.looks olds (record (flow_state_at s made.head.flow) { codel = d.codel }) made.head.from (λ is_new is_old. let e : New ≡ Old = sym is_new ∙ is_old in absurd cc) next d.leaves in_f in_g
      go (serving service) d none = absurd cc

  turn_sends : (s next : FairQueues) (head : Head) (service : Service) → AreSound s → Sends p now s head service next → Olds f g s
      → Even s (share_of head.flow f service.given.waiting.packet.len) (share_of head.flow g service.given.waiting.packet.len) next
  turn_sends s next head service sound d olds = rw d.leaves balanced
    where
      len : ℕ
      len = service.given.waiting.packet.len

      flow_state : FlowState
      flow_state = record { credits = (flow_state_at s head.flow).credits -ℤ pos service.given.waiting.packet.len; codel = d.codel }

      left : FairQueues
      left = with_flow_state s (with_queue s.lists head.flow (drop (d.drops + 1) (queue_of s head.flow))) head.flow flow_state

      here : (x : ℕ) → head.flow ≡ x → credits_of left x ≡ credits_of s x -ℤ pos len
      here x same =
          subst (λ (y : ℕ). credits_of left y ≡ credits_of s y -ℤ pos len) same
          (ap (λ (a : FlowState). a.credits) (get_or-set_same s.flow_states head.flow flow_state new_flow_state (rw sound.flow_states (within_from_packet s.lists.queues head.flow d.drops service.given.waiting d.stands))))

      there : (x : ℕ) → head.flow ≢ x → credits_of left x ≡ credits_of s x
      there x other = ap (λ (a : FlowState). a.credits) (get_or-set_other s.flow_states head.flow x flow_state new_flow_state (λ e. other (sym e)))

      balanced : Even s (share_of head.flow f len) (share_of head.flow g len) left
      balanced =
          elim (cases_eq head.flow f) [
            | inl is_f ↦
                let not_g : head.flow ≢ g = λ e. differ (sym is_f ∙ e) in
                rw (here f is_f, there g not_g, eq-eqb head.flow f is_f, ne_eqb head.flow g not_g) (omega (arith, ints))
            | inr not_f ↦
                elim (cases_eq head.flow g) [
                  | inl is_g ↦ rw (there f not_f, here g is_g, ne_eqb head.flow f not_f, eq-eqb head.flow g is_g) (omega (arith, ints))
                  | inr not_g ↦ rw (there f not_f, there g not_g, ne_eqb head.flow f not_f, ne_eqb head.flow g not_g) refl
                ]
          ]

  even_on : (s next new : FairQueues) (of_f of_g : ℕ) → Even s 0 0 next → Even next of_f of_g new → Even s of_f of_g new
  even_on s next new of_f of_g a b = omega (arith, ints)

  pub chain_shares : (turns : List TurnMade) (old new : FairQueues) → AreSound old → Olds f g old → Olds f g new → Chain p now old turns new → ChainShares p.quantum f g turns old new
  chain_shares [] old new sound before after c = inl (refl, rw c.1 refl)
  chain_shares (made ∷ more) old new sound before after (inl c) =
      let d = sends_of p now old new made c.0 c.3 c.1 in
      inr (made.head, c.0, d.drops, rw c.1 refl, d.stands, turn_sends old new made.head c.0 sound d before)
  chain_shares (made ∷ more) old new sound before after (inr c) =
      let next = c.0 in
      let in_f = chain_listed p now more next new f c.3 (has_right new.lists.new_flows new.lists.old_flows f after.0) in
      let in_g = chain_listed p now more next new g c.3 (has_right new.lists.new_flows new.lists.old_flows g after.1) in
      let first = turn_moves old next made sound c.2 c.1 before in_f in_g in
      let same = queues_stay p now old next made c.2 c.1 in
      elim (chain_shares more next new (turn_lowers p some_quantum now old next made sound c.2 c.1).0 first.0 after c.3) [
        | inl rest ↦ inl (rw c.1 rest.0, even_on old next new 0 0 first.1 rest.1)
        | inr rest ↦
            inr (
              rest.0,
              rest.1,
              rest.2,
              rw c.1 rest.3,
              subst (λ (queues : List (List Waiting)). slice_get (get_or queues rest.0.flow []) rest.2 ≡ Some rest.1.given.waiting) same rest.4,
              even_on old next new (share_of rest.0.flow f rest.1.given.waiting.packet.len) (share_of rest.0.flow g rest.1.given.waiting.packet.len) first.1 rest.5,
            )
      ]
