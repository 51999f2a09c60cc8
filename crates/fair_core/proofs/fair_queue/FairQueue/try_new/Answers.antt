use Rattle.std.proofs.Common.{◌≡◌, ℕ, List, [], get_or, length, replicate, sym, ◌∙◌, refl, arith}
use Rattle.std.proofs.lemmas.List.{length-replicate}
use Rattle.std.proofs.lemmas.List.Folds.{sum_by-replicate}
use Rattle.packet_core.specs.declared.packet.Waiting.{Waiting}
use Rattle.fair_core.specs.HeldQueues.{AreHeld, IsFlowStateInRange}
use Rattle.fair_core.specs.FairQueues.{new_flow_state}
use Rattle.flow_core.specs.FlowLists.{no_flows}
use Rattle.fair_core.specs.declared.flow_state.FlowState.{FlowState}
use Rattle.fair_core.proofs.CreditRanges.{replicate_keeps}
use Rattle.fair_core.proofs.fair_queue.FairQueue.try_new.Goals as goal

-- nothing waits at first, and each flow state is a new one
nothing_held : (flows : ℕ) → AreHeld (no_flows flows) (replicate flows new_flow_state) 0
nothing_held flows = record {
  as_many = length-replicate {A = FlowState} flows new_flow_state ∙ sym (length-replicate {A = List Waiting} flows []);
  few = omega arith;
  waiting = omega (arith, sum_by-replicate (length {A = Waiting}) flows []);
  numbers = λ flow.
      let empty : length (get_or {A = List Waiting} (replicate flows []) flow []) ≡ 0 = replicate_keeps (λ (q : List Waiting). length q ≡ 0) [] flows refl flow in
      replicate_keeps (λ (a : FlowState). IsFlowStateInRange a (length (get_or {A = List Waiting} (replicate flows []) flow [])) 0) new_flow_state flows (rw empty (record { low = omega arith; high = omega arith; count = omega arith; lastcount = omega arith; drop_next = omega arith })) flow;
}

pub invariant_of-result : goal.invariant_of-result
invariant_of-result c = rw (c.in_ok-try_new.ensures.0, c.in_ok-vec.ensures.items_if_clones_equal, c.new.ensures) (nothing_held c.args.flows)
