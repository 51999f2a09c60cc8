use Rattle.std.proofs.Common.{◌≡◌, ◌<◌, ◌++◌, Contains, get_or, length, arith, pos, sym, Bool, true, false, IsTrue, ◌↔◌, ◌∙◌, refl, subst, of_z, to_z, w64}
use Rattle.std.proofs.lemmas.Int.{ints}
use Rattle.std.proofs.lemmas.List.{get_or_read}
use Rattle.fair_core.specs.HeldQueues.{Held, held_of}
use Rattle.fair_core.specs.FairQueues.{new_flow_state}
use Rattle.fair_core.proofs.ListedFlowLemmas.{arrival_listed}
use Rattle.fair_core.proofs.fair_queue.FairQueue.arrive.Goals as goal

not_listed : (b : Bool) (P : Type 0) → IsTrue b ↔ P → b ≡ false → P → ⊥
not_listed b P h f p = let t : b ≡ true = h.1 p in let e : false ≡ true = sym f ∙ t in cc

pub returns-then-not-listed-clause-queues : goal.returns-then-not-listed-clause-queues
returns-then-not-listed-clause-queues c =
    let flow_states = c.self.inside.flow_states.items in
    let within : c.args.flow < length c.self.inside.flows.lists.queues = subst (λ (v : Held). c.args.flow < length v.queues.lists.queues) (sym c.self.view_is) c.requires.flow in
    let is : c.index_mut.result.now ≡ get_or flow_states c.args.flow new_flow_state = get_or_read flow_states c.args.flow c.index_mut.result.now (rw c.self.invariant.as_many within) c.index_mut.ensures.value new_flow_state in
    let quantum : to_z w64 (of_z w64 c.from.result) ≡ pos c.args.params.now.quantum = let from = c.from.ensures in let value = c.quantum.ensures.value in omega (arith, ints) in
    let absent : Contains (c.self.inside.flows.lists.new_flows ++ c.self.inside.flows.lists.old_flows) c.args.flow → ⊥ = λ among. not_listed c.listed.result _ c.listed.ensures.value c.if-not-listed.true (rw c.push.ensures.lists among) in
    let all = arrival_listed c.args.params.now ((held_of c.self.inside).queues) c.args.flow c.args.waiting absent in
    rw (← c.self.view_is, all, c.add_new.ensures, c.push.ensures.lists, quantum, is) refl
