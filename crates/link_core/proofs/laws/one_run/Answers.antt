use Rattle.std.proofs.Common.{List}
use Rattle.journal_core.specs.declared.step.Step.{Step}
use Rattle.journal_core.specs.Runs.{Made}
use Rattle.journal_core.specs.State.{State}
use Rattle.fair_core.specs.FairQueues.{FairQueues}
use Rattle.fair_core.specs.FqCodel.{fq_codel}
use Rattle.fair_core.proofs.FqCodelPolicy.{VerdictLaws}
use Rattle.fair_core.proofs.OneRun.{fq_codel_once}
use Rattle.link_core.proofs.OneLinkRun.{link_run_once}
use Rattle.link_core.proofs.laws.one_run.Goals as goal

pub returns : goal.returns
returns c = λ p seed range link arrivals steps steps' made made' last last' run run'.
    let laws : VerdictLaws = record { exists = c.one_verdict.ensures.exists; unique = c.one_verdict.ensures.unique; gives = c.one_verdict.ensures.gives } in
    link_run_once (fq_codel p seed) link arrivals (λ (all : List Step) (m m' : List Made) (old new new' : State FairQueues) r r'. fq_codel_once laws p seed range old new new' all m m' r r') steps steps' made made' last last' run run'
