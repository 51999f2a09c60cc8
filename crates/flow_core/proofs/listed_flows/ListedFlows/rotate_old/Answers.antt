use Rattle.std.proofs.Common.{◌<◌, ◌++◌, arith, drop, get_or, take}
use Rattle.flow_core.specs.Rings.{flows_of}
use Rattle.flow_core.proofs.MoveLemmas.{from_kept, lists_seen, old_within, rotated, to_kept}
use Rattle.flow_core.proofs.listed_flows.ListedFlows.rotate_old.Goals as goal

pub turn-requires : goal.turn-requires
turn-requires c =
    let f = c.self.inside in
    let are = from_kept f c.self.invariant in
    let has = rw (← c.self.view_is) at c.requires in
    let some : 0 < f.old_flows.len = omega (arith, are.old_ring.len, has) in
    rw c.deref.ensures.value (old_within f.marks.items f.next.items f.new_flows f.old_flows (flows_of f.next.items f.new_flows) (flows_of f.next.items f.old_flows) are some).last

pub invariant_of-self : goal.invariant_of-self
invariant_of-self c =
    let f = c.self.inside in
    let are = from_kept f c.self.invariant in
    let has = rw (← c.self.view_is) at c.requires in
    let some : 0 < f.old_flows.len = omega (arith, are.old_ring.len, has) in
    let turn = rw c.deref.ensures.value at c.turn.ensures in
    to_kept _ (flows_of f.next.items f.new_flows) (drop 1 (flows_of f.next.items f.old_flows) ++ take 1 (flows_of f.next.items f.old_flows)) c.self.invariant.few (rw turn (rotated f.marks.items f.next.items f.new_flows f.old_flows (flows_of f.next.items f.new_flows) (flows_of f.next.items f.old_flows) some are))

pub returns : goal.returns
returns c =
    let f = c.self.inside in
    let are = from_kept f c.self.invariant in
    let has = rw (← c.self.view_is) at c.requires in
    let some : 0 < f.old_flows.len = omega (arith, are.old_ring.len, has) in
    let turn = rw c.deref.ensures.value at c.turn.ensures in
    rw (turn, ← c.self.view_is)
    (lists_seen f.marks.items f.next.items f.new_flows (record { last = get_or f.next.items f.old_flows.last 0; len = f.old_flows.len })
    (flows_of f.next.items f.new_flows) (drop 1 (flows_of f.next.items f.old_flows) ++ take 1 (flows_of f.next.items f.old_flows)) (rotated f.marks.items f.next.items f.new_flows f.old_flows (flows_of f.next.items f.new_flows) (flows_of f.next.items f.old_flows) some are))
