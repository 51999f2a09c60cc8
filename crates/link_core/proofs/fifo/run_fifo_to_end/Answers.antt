use Rattle.std.proofs.Common.{◌∙◌}
use Rattle.link_core.proofs.fifo.run_fifo_to_end.Goals as goal

pub returns-clause-journal : goal.returns-clause-journal
returns-clause-journal g c =
    let ran = c.in_ok-end.ensures {u = tt} in
    let run = rw (c.in_ok-fifo.ensures {u = tt}) at ran.run in
    record {
      steps = c.run_over.new.discipline.so_far.steps;
      made = run.made;
      last = c.run_over.new.discipline.so_far.standing.state;
      run = run.run;
      journal = c.into_recorder.ensures.told ∙ run.journal;
    }
