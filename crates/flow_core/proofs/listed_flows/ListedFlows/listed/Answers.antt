use Rattle.std.proofs.Common.{◌≡◌, ◌∙◌, false, get_or, rules, sym}
use Rattle.flow_core.proofs.listed_flows.ListedFlows.listed.Goals as goal

pub returns-clause-value : goal.returns-clause-value
returns-clause-value c =
    let read : c.unwrap_or.result ≡ get_or c.self.inside.marks.items c.args.flow false = search rules in
    let marked = c.self.invariant.marked.marked c.args.flow in
    rw (← c.self.view_is) (λ mark. marked.0 (sym read ∙ mark), λ has. read ∙ marked.1 has)
