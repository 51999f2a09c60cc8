use Rattle.fair_core.specs.FqCodel.{fq_codel_policy}
use Rattle.fair_core.proofs.NewFlowsFirst.{new_flows_first}
use Rattle.sched_core.proofs.laws.new_flows_go_first.Goals as goal

pub returns : goal.returns
returns c = λ p range turns now flow old new sound first a. new_flows_first (fq_codel_policy p) range.quantum.0 now turns old new flow sound first a
