use Rattle.sched_core.proofs.PacketsAheadInRuns.{no_flow_starves}
use Rattle.sched_core.proofs.laws.no_flow_starves.Goals as goal

pub returns : goal.returns
returns c = λ p seed range steps made new ranges r a b flow waits none. no_flow_starves p seed range steps made new ranges r a b flow waits none
