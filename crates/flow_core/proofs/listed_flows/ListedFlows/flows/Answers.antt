use Rattle.flow_core.proofs.FlowNumberLemmas.{few_listed}
use Rattle.flow_core.specs.Rings.{flows_of}
use Rattle.flow_core.proofs.listed_flows.ListedFlows.flows.Goals as goal

pub returns-clause-few_listed : goal.returns-clause-few_listed
returns-clause-few_listed c =
    let f = c.self.inside in
    rw (← c.self.view_is) (few_listed f.marks.items (flows_of f.next.items f.new_flows) (flows_of f.next.items f.old_flows) c.self.invariant.marked)
