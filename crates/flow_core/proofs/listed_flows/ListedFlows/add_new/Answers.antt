use Rattle.std.proofs.Common.{◌+◌, ◌++◌, ◌∷◌, [], arith, length-set, set, true}
use Rattle.std.proofs.lemmas.List.{with_items_is}
use Rattle.flow_core.specs.Rings.{flows_of}
use Rattle.flow_core.proofs.FlowNumberLemmas.{fewer_listed}
use Rattle.flow_core.proofs.MoveLemmas.{from_kept, lists_seen, new_joined, new_within, to_kept}
use Rattle.flow_core.proofs.listed_flows.ListedFlows.add_new.Goals as goal

pub join-requires-clause-few : goal.join-requires-clause-few
join-requires-clause-few c =
    let f = c.self.inside in
    let are = from_kept f c.self.invariant in
    let fewer = fewer_listed f.marks.items c.args.flow (flows_of f.next.items f.new_flows) (flows_of f.next.items f.old_flows) (rw (← c.self.view_is) at c.requires.flow) (rw (← c.self.view_is) at c.requires.absent) are.marked in
    omega (arith, fewer, are.new_ring.len, c.self.invariant.few)

pub join-requires-clause-last : goal.join-requires-clause-last
join-requires-clause-last c =
    let f = c.self.inside in
    λ some. rw c.deref_mut.ensures.value (new_within f.marks.items f.next.items f.new_flows f.old_flows (flows_of f.next.items f.new_flows) (flows_of f.next.items f.old_flows) (from_kept f c.self.invariant) some).last

pub invariant_of-self : goal.invariant_of-self
invariant_of-self c =
    let f = c.self.inside in
    let are = from_kept f c.self.invariant in
    let moved = new_joined f.marks.items f.next.items c.join.new.next f.new_flows f.old_flows (flows_of f.next.items f.new_flows) (flows_of f.next.items f.old_flows) c.args.flow
    (rw (← c.self.view_is) at c.requires.flow) (rw (← c.self.view_is) at c.requires.absent) are
    (rw c.deref_mut.ensures.value at c.join.ensures.first) (rw c.deref_mut.ensures.value at c.join.ensures.behind) in
    let size = length-set f.marks.items c.args.flow true in
    let seen = with_items_is f.next c.join.new.next (omega (arith, moved.size, size, are.size, f.next.ok.0)) in
    to_kept _ ((flows_of f.next.items f.new_flows) ++ c.args.flow ∷ []) (flows_of f.next.items f.old_flows) (omega (arith, c.self.invariant.few, size)) (rw (seen, c.join.ensures.ring) moved)

pub returns : goal.returns
returns c =
    let f = c.self.inside in
    let are = from_kept f c.self.invariant in
    let moved = new_joined f.marks.items f.next.items c.join.new.next f.new_flows f.old_flows (flows_of f.next.items f.new_flows) (flows_of f.next.items f.old_flows) c.args.flow
    (rw (← c.self.view_is) at c.requires.flow) (rw (← c.self.view_is) at c.requires.absent) are
    (rw c.deref_mut.ensures.value at c.join.ensures.first) (rw c.deref_mut.ensures.value at c.join.ensures.behind) in
    let size = length-set f.marks.items c.args.flow true in
    let seen = with_items_is f.next c.join.new.next (omega (arith, moved.size, size, are.size, f.next.ok.0)) in
    let lists = lists_seen (set f.marks.items c.args.flow true) c.join.new.next (record { last = c.args.flow; len = f.new_flows.len + 1 }) f.old_flows ((flows_of f.next.items f.new_flows) ++ c.args.flow ∷ []) (flows_of f.next.items f.old_flows) moved in
    rw (seen, c.join.ensures.ring, size, ← c.self.view_is) (rw size at lists)
