use Rattle.fair_core.specs.FairQueues.{no_queues}
use Rattle.fair_core.specs.FqCodel.{fq_codel}
use Rattle.journal_core.specs.State.{opening_state}
use Rattle.journal_core.proofs.RunsWithoutRefused.{journal_without, runs_without}
use Rattle.sched_core.proofs.laws.refused_steps_change_nothing.Goals as goal

pub returns-clause-state : goal.returns-clause-state
returns-clause-state c = λ p seed steps made new r. runs_without (fq_codel p seed) (opening_state (no_queues p.flows)) new steps made r

pub returns-clause-journal : goal.returns-clause-journal
returns-clause-journal c = λ p seed steps made new r. journal_without (fq_codel p seed) (opening_state (no_queues p.flows)) new steps made r
