use Rattle.flow_core.specs.Rings.{flows_of}
use Rattle.flow_core.proofs.FlowNumberLemmas.{head_within}
use Rattle.flow_core.proofs.MoveLemmas.{from_kept, old_within}
use Rattle.flow_core.proofs.listed_flows.ListedFlows.head_old.Goals as goal

pub first-requires : goal.first-requires
first-requires c =
    let f = c.self.inside in
    λ some. rw c.deref.ensures.value (old_within f.marks.items f.next.items f.new_flows f.old_flows (flows_of f.next.items f.new_flows) (flows_of f.next.items f.old_flows) (from_kept f c.self.invariant) some).last

pub returns-clause-within : goal.returns-clause-within
returns-clause-within c =
    let f = c.self.inside in
    rw (c.first.ensures, c.deref.ensures.value, ← c.self.view_is) (head_within f.marks.items (flows_of f.next.items f.new_flows) (flows_of f.next.items f.old_flows) c.self.invariant.marked)
