use Rattle.sched_core.proofs.RunExistence.{fq_codel_there}
use Rattle.sched_core.proofs.laws.every_list_has_a_run.Goals as goal

pub returns : goal.returns
returns c = λ p seed range steps has. fq_codel_there (record { exists = c.one_verdict.ensures.exists; unique = c.one_verdict.ensures.unique; gives = c.one_verdict.ensures.gives }) p seed range steps has
