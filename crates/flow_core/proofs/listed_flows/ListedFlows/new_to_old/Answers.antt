use Rattle.std.proofs.Common.{◌+◌, ◌-◌, ◌<◌, arith, ap, drop, get_or, length, set, take, ◌++◌, ◌∙◌}
use Rattle.std.specs.Vec.{with_items}
use Rattle.std.proofs.lemmas.List.{with_items_is}
use Rattle.flow_core.specs.Rings.{flows_of}
use Rattle.flow_core.proofs.MoveLemmas.{away, became_old, from_kept, lists_seen, new_within, to_kept}
use Rattle.flow_core.proofs.listed_flows.ListedFlows.new_to_old.Goals as goal

pub leave-flow-requires-clause-last : goal.leave-flow-requires-clause-last
leave-flow-requires-clause-last c =
    let f = c.self.inside in
    let are = from_kept f c.self.invariant in
    let has = rw (← c.self.view_is) at c.requires in
    let some : 0 < f.new_flows.len = omega (arith, are.new_ring.len, has) in
    rw c.deref_mut.ensures.value (new_within f.marks.items f.next.items f.new_flows f.old_flows (flows_of f.next.items f.new_flows) (flows_of f.next.items f.old_flows) are some).last

pub join-requires-clause-few : goal.join-requires-clause-few
join-requires-clause-few c =
    let f = c.self.inside in
    let are = from_kept f c.self.invariant in
    let has = rw (← c.self.view_is) at c.requires in
    let some : 0 < f.new_flows.len = omega (arith, are.new_ring.len, has) in
    omega (arith, c.self.invariant.few, (away f.marks.items f.next.items f.new_flows f.old_flows (flows_of f.next.items f.new_flows) (flows_of f.next.items f.old_flows) some are).few)

pub join-requires-clause-last : goal.join-requires-clause-last
join-requires-clause-last c =
    let f = c.self.inside in
    let are = from_kept f c.self.invariant in
    let has = rw (← c.self.view_is) at c.requires in
    let some : 0 < f.new_flows.len = omega (arith, are.new_ring.len, has) in
    let gone = away f.marks.items f.next.items f.new_flows f.old_flows (flows_of f.next.items f.new_flows) (flows_of f.next.items f.old_flows) some are in
    let gone_is = rw c.deref_mut.ensures.value at c.leave-flow.ensures.next in
    let mid_seen = with_items_is f.next c.leave-flow.new.next (omega (arith, ap length gone_is, gone.size, f.next.ok.0)) in
    rw (c.deref_mut-2.ensures.value, mid_seen, gone_is) gone.last

pub invariant_of-self : goal.invariant_of-self
invariant_of-self c =
    let f = c.self.inside in
    let are = from_kept f c.self.invariant in
    let has = rw (← c.self.view_is) at c.requires in
    let some : 0 < f.new_flows.len = omega (arith, are.new_ring.len, has) in
    let gone = away f.marks.items f.next.items f.new_flows f.old_flows (flows_of f.next.items f.new_flows) (flows_of f.next.items f.old_flows) some are in
    let gone_is = rw c.deref_mut.ensures.value at c.leave-flow.ensures.next in
    let mid_seen = with_items_is f.next c.leave-flow.new.next (omega (arith, ap length gone_is, gone.size, f.next.ok.0)) in
    let first_is = rw c.deref_mut.ensures.value at c.leave-flow.ensures.first in
    let mid_is = c.deref_mut-2.ensures.value ∙ mid_seen ∙ gone_is in
    let moved = became_old f.marks.items f.next.items (set f.next.items f.new_flows.last (get_or f.next.items (get_or f.next.items f.new_flows.last 0) 0)) c.join.new.next f.new_flows f.old_flows
    (flows_of f.next.items f.new_flows) (flows_of f.next.items f.old_flows) (get_or f.next.items f.new_flows.last 0) are gone
    (rw (mid_is, first_is) at c.join.ensures.first) (rw (mid_is, first_is) at c.join.ensures.behind) in
    let seen = with_items_is (with_items f.next c.leave-flow.new.next) c.join.new.next (omega (arith, moved.size, are.size, f.next.ok.0)) in
    to_kept _ (drop 1 (flows_of f.next.items f.new_flows)) ((flows_of f.next.items f.old_flows) ++ take 1 (flows_of f.next.items f.new_flows)) c.self.invariant.few
    (rw (seen, c.leave-flow.ensures.ring, c.join.ensures.ring, first_is) moved)

pub returns : goal.returns
returns c =
    let f = c.self.inside in
    let are = from_kept f c.self.invariant in
    let has = rw (← c.self.view_is) at c.requires in
    let some : 0 < f.new_flows.len = omega (arith, are.new_ring.len, has) in
    let gone = away f.marks.items f.next.items f.new_flows f.old_flows (flows_of f.next.items f.new_flows) (flows_of f.next.items f.old_flows) some are in
    let gone_is = rw c.deref_mut.ensures.value at c.leave-flow.ensures.next in
    let mid_seen = with_items_is f.next c.leave-flow.new.next (omega (arith, ap length gone_is, gone.size, f.next.ok.0)) in
    let first_is = rw c.deref_mut.ensures.value at c.leave-flow.ensures.first in
    let mid_is = c.deref_mut-2.ensures.value ∙ mid_seen ∙ gone_is in
    let moved = became_old f.marks.items f.next.items (set f.next.items f.new_flows.last (get_or f.next.items (get_or f.next.items f.new_flows.last 0) 0)) c.join.new.next f.new_flows f.old_flows
    (flows_of f.next.items f.new_flows) (flows_of f.next.items f.old_flows) (get_or f.next.items f.new_flows.last 0) are gone
    (rw (mid_is, first_is) at c.join.ensures.first) (rw (mid_is, first_is) at c.join.ensures.behind) in
    let seen = with_items_is (with_items f.next c.leave-flow.new.next) c.join.new.next (omega (arith, moved.size, are.size, f.next.ok.0)) in
    rw (seen, c.leave-flow.ensures.ring, c.join.ensures.ring, first_is, ← c.self.view_is)
    (lists_seen f.marks.items c.join.new.next (record { last = f.new_flows.last; len = f.new_flows.len - 1 }) (record { last = (get_or f.next.items f.new_flows.last 0); len = f.old_flows.len + 1 })
    (drop 1 (flows_of f.next.items f.new_flows)) ((flows_of f.next.items f.old_flows) ++ take 1 (flows_of f.next.items f.new_flows)) moved)
