-- How an arrival and a serve keep the numbers of the flow states in range.
use Rattle.std.proofs.Common.{◌≡◌, ℕ, ◌<◌, ◌^◌, List, [], drop, get_or, set, length, sym, ap, subst, ◌∙◌, inl, inr, arith, ℤ, pos, ◌+ℤ◌, ◌≤ℤ◌, Option}
use Rattle.std.proofs.lemmas.Bool.{cases_eq}
use Rattle.std.proofs.lemmas.List.{get_or-set_other, get_or-set_same, length-drop, length-set, set-get_or}
use Rattle.std.proofs.lemmas.List.Sums.{sum_by-set}
use Rattle.packet_core.specs.declared.params.ParamFields.{ParamFields}
use Rattle.codel_core.specs.Schedule.{StaysInRange}
use Rattle.codel_core.specs.declared.served.Served.{Served}
use Rattle.codel_core.specs.declared.state.CodelState.{CodelState}
use Rattle.flow_core.specs.FlowLists.{FlowLists, Holding, queue_at, with_queue}
use Rattle.fair_core.specs.declared.flow_state.FlowState.{FlowState}
use Rattle.fair_core.specs.HeldQueues.{AreHeld, Held, IsFlowStateInRange, ServesFlow, ServesQueue, held_flows, spent, with_holding}
use Rattle.journal_core.specs.Books.{Book}
use Rattle.fair_core.specs.FairQueues.{flow_state_at, new_flow_state}

-- a flow that packets leave, and whose flow state stays in range
held_leaves : (lists : FlowLists) (flow_states : List FlowState) (arrived flow gone : ℕ) (flow_state : FlowState) → AreHeld lists flow_states arrived → flow < length lists.queues → IsFlowStateInRange flow_state (length (drop gone (queue_at lists flow))) arrived
    → AreHeld (with_queue lists flow (drop gone (queue_at lists flow))) (set flow_states flow flow_state) arrived
held_leaves lists flow_states arrived flow gone flow_state h within range = record {
  as_many = length-set flow_states flow flow_state ∙ h.as_many ∙ sym (length-set lists.queues flow (drop gone (queue_at lists flow)));
  few = h.few;
  waiting = let sum = sum_by-set length lists.queues flow (drop gone (queue_at lists flow)) [] within in let less = length-drop gone (queue_at lists flow) in let was = h.waiting in omega arith;
  numbers = λ f.
      elim (cases_eq f flow) [
        | inl same ↦ rw (same, get_or-set_same flow_states flow flow_state new_flow_state (rw h.as_many within), get_or-set_same lists.queues flow (drop gone (queue_at lists flow)) [] within) range
        | inr other ↦ rw (get_or-set_other flow_states flow f flow_state new_flow_state other, get_or-set_other lists.queues flow f (drop gone (queue_at lists flow)) [] other) (h.numbers f)
      ];
}

-- a flow state that stays in range
pub held_flow_state : (lists : FlowLists) (flow_states : List FlowState) (arrived flow : ℕ) (flow_state : FlowState) → AreHeld lists flow_states arrived → flow < length lists.queues → IsFlowStateInRange flow_state (length (queue_at lists flow)) arrived → AreHeld lists (set flow_states flow flow_state) arrived
held_flow_state lists flow_states arrived flow flow_state h within range = rw (set-get_or lists.queues flow []) at (held_leaves lists flow_states arrived flow 0 flow_state h within range)

-- a flow that is served
pub held_serves : (p : ParamFields) (now : ℕ) (lists : FlowLists) (flow_states : List FlowState) (arrived flow gone : ℕ) (flow_state : FlowState) → AreHeld lists flow_states arrived → flow < length lists.queues → now < 2 ^ 60
    → pos 0 ≤ℤ (flow_state.credits +ℤ pos 65535) → flow_state.credits ≤ℤ pos 1000000
    → StaysInRange p now ((get_or flow_states flow new_flow_state).codel) (length (queue_at lists flow)) flow_state.codel (length (drop gone (queue_at lists flow)))
    → AreHeld (with_queue lists flow (drop gone (queue_at lists flow))) (set flow_states flow flow_state) arrived
held_serves p now lists flow_states arrived flow gone flow_state h within soon low high stays =
    let was = h.numbers flow in
    let count = stays.count in
    let last = stays.lastcount in
    let next = stays.drop_next in
    let interval = stays.interval.1 in
    let before = was.count in
    let before_last = was.lastcount in
    let before_next = was.drop_next in
    held_leaves lists flow_states arrived flow gone flow_state h within (record { low = low; high = high; count = omega arith; lastcount = omega arith; drop_next = omega arith })

-- a flow whose queue was served, and whose credits are lessened by what was given
pub flow_from_queue : (p : ParamFields) (now flow : ℕ) (old : Held) (flow_state : FlowState) (codel' : CodelState) (book book' : Book) (answer : Option Served) (flows' : Holding) (credits' : ℤ) → flow_state ≡ flow_state_at old.queues flow
    → ServesQueue p now flow (held_flows old) flow_state.codel book answer flows' codel' book' → credits' ≡ spent flow_state.credits answer
    → ServesFlow p now flow old book answer (with_holding old flows' (set old.queues.flow_states flow (record { credits = credits'; codel = codel' }))) book'
flow_from_queue p now flow old flow_state codel' book book' answer flows' credits' is q credits = record {
  flows = flows';
  codel = codel';
  serves = subst (λ (a : FlowState). ServesQueue p now flow (held_flows old) a.codel book answer flows' codel' book') is q;
  rest = ap (λ (c : ℤ). with_holding old flows' (set old.queues.flow_states flow (record { credits = c; codel = codel' }))) (credits ∙ ap (λ (a : FlowState). spent a.credits answer) is);
}
