use Rattle.flow_core.specs.Rings.{flows_of}
use Rattle.flow_core.proofs.MoveLemmas.{from_kept, new_within}
use Rattle.flow_core.proofs.listed_flows.ListedFlows.head_new.Goals as goal

pub first-requires : goal.first-requires
first-requires c =
    let f = c.self.inside in
    λ some. rw c.deref.ensures.value (new_within f.marks.items f.next.items f.new_flows f.old_flows (flows_of f.next.items f.new_flows) (flows_of f.next.items f.old_flows) (from_kept f c.self.invariant) some).last
