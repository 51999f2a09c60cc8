use Rattle.journal_core.proofs.RunLemmas.{places}
use Rattle.sched_core.proofs.FqCodelRuns.{fq_codel_laws}
use Rattle.sched_core.proofs.run.run_steps.Goals as goal

pub returns-clause-run : goal.returns-clause-run
returns-clause-run c = (c.in_ok-outcomes.ensures c.args.params c.args.seed c.in_ok-engine.ensures).run

pub returns-clause-steps : goal.returns-clause-steps
returns-clause-steps c = (c.in_ok-outcomes.ensures c.args.params c.args.seed c.in_ok-engine.ensures).stored

pub returns-clause-made_with : goal.returns-clause-made_with
returns-clause-made_with c = let made = c.in_ok-outcomes.ensures c.args.params c.args.seed c.in_ok-engine.ensures in (made.params_kept, made.seed_kept)

pub returns-clause-places : goal.returns-clause-places
returns-clause-places c = let run = (c.in_ok-outcomes.ensures c.args.params c.args.seed c.in_ok-engine.ensures).run in rw (run.journal, run.told) (places run.made)

pub returns-clause-laws : goal.returns-clause-laws
returns-clause-laws c =
    let run = (c.in_ok-outcomes.ensures c.args.params c.args.seed c.in_ok-engine.ensures).run in
    rw run.journal (fq_codel_laws c.args.params c.args.seed _ run.made _ run.runs).0

pub returns-clause-waiting : goal.returns-clause-waiting
returns-clause-waiting c =
    let run = (c.in_ok-outcomes.ensures c.args.params c.args.seed c.in_ok-engine.ensures).run in
    rw run.journal (fq_codel_laws c.args.params c.args.seed _ run.made _ run.runs).1

pub returns-clause-turns : goal.returns-clause-turns
returns-clause-turns c = (c.in_ok-outcomes.ensures c.args.params c.args.seed c.in_ok-engine.ensures).turns

pub returns-clause-comparisons : goal.returns-clause-comparisons
returns-clause-comparisons c = (c.in_ok-outcomes.ensures c.args.params c.args.seed c.in_ok-engine.ensures).few
