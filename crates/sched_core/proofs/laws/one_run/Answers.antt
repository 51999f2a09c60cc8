use Rattle.fair_core.proofs.OneRun.{fq_codel_once}
use Rattle.sched_core.proofs.laws.one_run.Goals as goal

pub returns : goal.returns
returns c = λ p seed range steps made made' old new new' r r'. fq_codel_once (record { exists = c.one_verdict.ensures.exists; unique = c.one_verdict.ensures.unique; gives = c.one_verdict.ensures.gives }) p seed range old new new' steps made made' r r'
