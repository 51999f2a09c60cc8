use Rattle.std.proofs.Common.{◌∙◌, ap}
use Rattle.sched_core.specs.Engines.{Running}
use Rattle.link_core.specs.QueueDisciplines.{Setting}
use Rattle.link_core.proofs.run.run_link_to_end.Goals as goal

pub returns-clause-run : goal.returns-clause-run
returns-clause-run g c =
    let new = c.in_ok-engine.ensures {u = tt} in
    let ran = c.in_ok-end.ensures {u = tt} in
    let run = rw new at ran.run in
    record {
      made = run.made;
      run = run.run;
      journal = run.journal;
      params = ap (λ (s : Setting). s.params) ran.kept ∙ ap (λ (e : Running). e.sched.params) new;
      seed_kept = ap (λ (s : Setting). s.seed) ran.kept ∙ ap (λ (e : Running). e.sched.seed) new;
    }

pub returns-clause-made_for : goal.returns-clause-made_for
returns-clause-made_for g c = ap (λ (s : Setting). s.made_for) (c.in_ok-end.ensures {u = tt}).kept ∙ ap (λ (e : Running). e.sched.made_for) (c.in_ok-engine.ensures {u = tt})
