use Rattle.std.proofs.Common.{◌≡◌, ◌<◌, ◌+ℤ◌, ◌≤ℤ◌, get_or, length, arith, pos, ap, sym, subst, of_z, to_z, w64}
use Rattle.std.proofs.lemmas.Int.{ints}
use Rattle.std.proofs.lemmas.List.{get_or_read}
use Rattle.fair_core.specs.declared.flow_state.FlowState.{FlowState}
use Rattle.fair_core.specs.HeldQueues.{Held}
use Rattle.fair_core.specs.FairQueues.{flow_state_at, new_flow_state}
use Rattle.fair_core.proofs.FlowStateRanges.{held_flow_state}
use Rattle.fair_core.proofs.fair_queue.FairQueue.raise_credits.Goals as goal

pub invariant_of-self : goal.invariant_of-self
invariant_of-self c =
    let flow_states = c.self.inside.flow_states.items in
    let h = c.self.invariant in
    let within : c.args.flow < length c.self.inside.flows.lists.queues = subst (λ (v : Held). c.args.flow < length v.queues.lists.queues) (sym c.self.view_is) c.requires.flow in
    let is : c.index_mut.result.now ≡ get_or flow_states c.args.flow new_flow_state = get_or_read flow_states c.args.flow c.index_mut.result.now (rw h.as_many within) c.index_mut.ensures.value new_flow_state in
    let none : (get_or flow_states c.args.flow new_flow_state).credits ≤ℤ pos 0 = subst (λ (v : Held). (flow_state_at v.queues c.args.flow).credits ≤ℤ pos 0) (sym c.self.view_is) c.requires.credits in
    let credits : c.index_mut.result.now.credits ≡ (get_or flow_states c.args.flow new_flow_state).credits = ap (λ (a : FlowState). a.credits) is in
    let range = h.numbers c.args.flow in
    let low = range.low in
    let high = range.high in
    let from = c.from.ensures in
    let quantum = c.quantum.ensures.range in
    held_flow_state c.self.inside.flows.lists flow_states c.self.inside.arrived c.args.flow
    (record { credits = to_z w64 (of_z w64 (to_z w64 (of_z w64 c.index_mut.result.now.credits) +ℤ to_z w64 (of_z w64 c.from.result))); codel = c.index_mut.result.now.codel }) h within
    (record { low = omega (arith, ints); high = omega (arith, ints); count = rw is range.count; lastcount = rw is range.lastcount; drop_next = rw is range.drop_next })
