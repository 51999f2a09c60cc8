use Rattle.std.proofs.Common.{◌-ℤ◌, of_z, to_z, w64, [], refl, ◌≡◌, ◌+◌, ◌<◌, ◌<ℤ◌, get_or, arith, length, pos, None, Some, sym, subst}
use Rattle.std.proofs.lemmas.Int.{ints}
use Rattle.std.proofs.lemmas.List.{get_or_read}
use Rattle.fair_core.specs.HeldQueues.{Held, IsFlowStateInRange, held_of}
use Rattle.fair_core.specs.FairQueues.{flow_state_at, new_flow_state}
use Rattle.fair_core.proofs.FlowStateRanges.{flow_from_queue, held_serves}
use Rattle.fair_core.proofs.fair_queue.FairQueue.serve_flow.Given as given
use Rattle.fair_core.proofs.fair_queue.FairQueue.serve_flow.Goals as goal
use Rattle.fair_core.proofs.fair_queue.FairQueue.serve_flow.Goals.{After-serve_queue-served}

-- the flow state is the flow's: its credits are above 0, and its numbers are in range
record IsFlows (g : given.Over) (c : After-serve_queue-served g) : Type 0 where
  within : c.args.flow < length c.self.inside.flows.lists.queues
  is : c.index_mut-flow_state.result.now ≡ flow_state_at (held_of c.self.inside).queues c.args.flow
  range : IsFlowStateInRange c.index_mut-flow_state.result.now (length (get_or c.self.inside.flows.lists.queues c.args.flow [])) c.self.inside.arrived
  credits : pos 0 <ℤ c.index_mut-flow_state.result.now.credits

is_flows : (g : given.Over) (c : After-serve_queue-served g) → IsFlows g c
is_flows g c =
    let h = c.self.invariant in
    let within : c.args.flow < length c.self.inside.flows.lists.queues = subst (λ (v : Held). c.args.flow < length v.queues.lists.queues) (sym c.self.view_is) c.requires.flow in
    let is : c.index_mut-flow_state.result.now ≡ get_or c.self.inside.flow_states.items c.args.flow new_flow_state = get_or_read c.self.inside.flow_states.items c.args.flow c.index_mut-flow_state.result.now (rw h.as_many within) c.index_mut-flow_state.ensures.value new_flow_state in
    record {
      within = within;
      is = is;
      range = rw is (h.numbers c.args.flow);
      credits = rw is (subst (λ (v : Held). pos 0 <ℤ (flow_state_at v.queues c.args.flow).credits) (sym c.self.view_is) c.requires.credits);
    }

pub invariant_of-self : goal.invariant_of-self
invariant_of-self g c =
    let q = c.serve_queue-served.ensures in
    let a = is_flows g (goal.at.invariant_of-self g c).After-serve_queue-served in
    rw q.rest
    (held_serves c.args.params.now c.args.now c.self.inside.flows.lists c.self.inside.flow_states.items c.self.inside.arrived c.args.flow (q.drops + 1) (record { credits = c.index_mut-flow_state.result.now.credits; codel = c.serve_queue-served.new.codel }) c.self.invariant a.within c.requires.moment
    a.range.low a.range.high (rw (← a.is) q.stays))

pub returns-in_default : goal.returns-in_default
returns-in_default g c =
    let a = is_flows g (goal.at.returns-in_default g c).After-serve_queue-served in
    rw (← c.self.view_is)
    (flow_from_queue c.args.params.now c.args.now c.args.flow (held_of c.self.inside) c.index_mut-flow_state.result.now c.serve_queue-served.new.codel c.args.journal.now c.serve_queue-served.new.journal None c.serve_queue-served.new.flows
    c.index_mut-flow_state.result.now.credits a.is (rw c.in_default.is at c.serve_queue-served.ensures) refl)

pub overflow_sub-flow_state : goal.overflow_sub-flow_state
overflow_sub-flow_state g c =
    let a = is_flows g (goal.at.overflow_sub-flow_state g c).After-serve_queue-served in
    let from = c.from.ensures in
    let len = c.len.ensures.range in
    omega (arith, ints)

pub invariant_of-self-2 : goal.invariant_of-self-2
invariant_of-self-2 g c =
    let q = c.serve_queue-served.ensures in
    let a = is_flows g (goal.at.invariant_of-self-2 g c).After-serve_queue-served in
    let from = c.from.ensures in
    let len = c.len.ensures.range in
    rw q.rest
    (held_serves c.args.params.now c.args.now c.self.inside.flows.lists c.self.inside.flow_states.items c.self.inside.arrived c.args.flow (q.drops + 1)
    (record { credits = to_z w64 (of_z w64 (to_z w64 (of_z w64 c.index_mut-flow_state.result.now.credits) -ℤ to_z w64 (of_z w64 c.from.result))); codel = c.serve_queue-served.new.codel }) c.self.invariant a.within c.requires.moment
    (omega (arith, ints)) (omega (arith, ints)) (rw (← a.is) q.stays))

pub returns : goal.returns
returns g c =
    let a = is_flows g (goal.at.returns g c).After-serve_queue-served in
    let from = c.from.ensures in
    let len = c.len.ensures.value in
    let range = c.len.ensures.range in
    rw (← c.self.view_is, c.in-Some.is)
    (flow_from_queue c.args.params.now c.args.now c.args.flow (held_of c.self.inside) c.index_mut-flow_state.result.now c.serve_queue-served.new.codel c.args.journal.now c.serve_queue-served.new.journal (Some c.in-Some.given) c.serve_queue-served.new.flows
    (to_z w64 (of_z w64 (to_z w64 (of_z w64 c.index_mut-flow_state.result.now.credits) -ℤ to_z w64 (of_z w64 c.from.result)))) a.is (rw c.in-Some.is at c.serve_queue-served.ensures) (omega (arith, ints)))
