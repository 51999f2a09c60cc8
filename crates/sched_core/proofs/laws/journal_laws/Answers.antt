use Rattle.sched_core.proofs.FqCodelRuns.{fq_codel_laws}
use Rattle.sched_core.proofs.laws.journal_laws.Goals as goal

pub returns-clause-laws : goal.returns-clause-laws
returns-clause-laws c = λ p seed steps made new r. (fq_codel_laws p seed steps made new r).0

pub returns-clause-waiting : goal.returns-clause-waiting
returns-clause-waiting c = λ p seed steps made new r. (fq_codel_laws p seed steps made new r).1
