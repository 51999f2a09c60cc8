use Rattle.std.proofs.Common.{◌-◌, ◌<◌, arith, ap, drop, false, get_or, length, length-set, set}
use Rattle.std.proofs.lemmas.List.{with_items_is}
use Rattle.flow_core.specs.Rings.{flows_of}
use Rattle.flow_core.proofs.MoveLemmas.{from_kept, lists_seen, old_left, old_within, to_kept}
use Rattle.flow_core.proofs.listed_flows.ListedFlows.leave_old.Goals as goal

pub leave-flow-requires-clause-last : goal.leave-flow-requires-clause-last
leave-flow-requires-clause-last c =
    let f = c.self.inside in
    let are = from_kept f c.self.invariant in
    let has = rw (← c.self.view_is) at c.requires in
    let some : 0 < f.old_flows.len = omega (arith, are.old_ring.len, has) in
    rw c.deref_mut.ensures.value (old_within f.marks.items f.next.items f.new_flows f.old_flows (flows_of f.next.items f.new_flows) (flows_of f.next.items f.old_flows) are some).last

pub leave-flow-requires-clause-first : goal.leave-flow-requires-clause-first
leave-flow-requires-clause-first c =
    let f = c.self.inside in
    let are = from_kept f c.self.invariant in
    let has = rw (← c.self.view_is) at c.requires in
    let some : 0 < f.old_flows.len = omega (arith, are.old_ring.len, has) in
    rw c.deref_mut.ensures.value (old_within f.marks.items f.next.items f.new_flows f.old_flows (flows_of f.next.items f.new_flows) (flows_of f.next.items f.old_flows) are some).first

pub index_mut-requires : goal.index_mut-requires
index_mut-requires c =
    let f = c.self.inside in
    let are = from_kept f c.self.invariant in
    let has = rw (← c.self.view_is) at c.requires in
    let some : 0 < f.old_flows.len = omega (arith, are.old_ring.len, has) in
    let first_is = rw c.deref_mut.ensures.value at c.leave-flow.ensures.first in
    omega (arith, first_is, (old_within f.marks.items f.next.items f.new_flows f.old_flows (flows_of f.next.items f.new_flows) (flows_of f.next.items f.old_flows) are some).first, are.size, f.marks.ok.0)

pub invariant_of-self : goal.invariant_of-self
invariant_of-self c =
    let f = c.self.inside in
    let are = from_kept f c.self.invariant in
    let has = rw (← c.self.view_is) at c.requires in
    let some : 0 < f.old_flows.len = omega (arith, are.old_ring.len, has) in
    let gone_is = rw c.deref_mut.ensures.value at c.leave-flow.ensures.next in
    let first_is = rw c.deref_mut.ensures.value at c.leave-flow.ensures.first in
    let moved = old_left f.marks.items f.next.items f.new_flows f.old_flows (flows_of f.next.items f.new_flows) (flows_of f.next.items f.old_flows) some are in
    let seen = with_items_is f.next c.leave-flow.new.next (omega (arith, ap length gone_is, moved.size, length-set f.marks.items (get_or f.next.items f.old_flows.last 0) false, are.size, f.next.ok.0)) in
    to_kept _ (flows_of f.next.items f.new_flows) (drop 1 (flows_of f.next.items f.old_flows)) (omega (arith, c.self.invariant.few, length-set f.marks.items c.leave-flow.result false))
    (rw (seen, gone_is, c.leave-flow.ensures.ring, first_is) moved)

pub returns : goal.returns
returns c =
    let f = c.self.inside in
    let are = from_kept f c.self.invariant in
    let has = rw (← c.self.view_is) at c.requires in
    let some : 0 < f.old_flows.len = omega (arith, are.old_ring.len, has) in
    let gone_is = rw c.deref_mut.ensures.value at c.leave-flow.ensures.next in
    let first_is = rw c.deref_mut.ensures.value at c.leave-flow.ensures.first in
    let moved = old_left f.marks.items f.next.items f.new_flows f.old_flows (flows_of f.next.items f.new_flows) (flows_of f.next.items f.old_flows) some are in
    let seen = with_items_is f.next c.leave-flow.new.next (omega (arith, ap length gone_is, moved.size, length-set f.marks.items (get_or f.next.items f.old_flows.last 0) false, are.size, f.next.ok.0)) in
    let size = length-set f.marks.items c.leave-flow.result false in
    let lists = lists_seen (set f.marks.items (get_or f.next.items f.old_flows.last 0) false) (set f.next.items f.old_flows.last (get_or f.next.items (get_or f.next.items f.old_flows.last 0) 0))
    f.new_flows (record { last = f.old_flows.last; len = f.old_flows.len - 1 }) (flows_of f.next.items f.new_flows) (drop 1 (flows_of f.next.items f.old_flows)) moved in
    rw (seen, gone_is, c.leave-flow.ensures.ring, size, ← c.self.view_is) (rw (length-set f.marks.items (get_or f.next.items f.old_flows.last 0) false) at lists)
