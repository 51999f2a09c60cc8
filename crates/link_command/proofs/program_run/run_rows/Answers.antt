use Rattle.std.proofs.Common.{◌∙◌}
use Rattle.link_report.specs.Binnings.{shape_of}
use Rattle.link_report.specs.declared.table.Queue.TheVariants.{FqCodel}
use Rattle.link_command.specs.RunsSaid.{run_parts_of}
use Rattle.link_command.proofs.RunLemmas.{journal_of_engine, note_of_engine, rows_told}
use Rattle.link_command.proofs.program_run.run_rows.Goals as goal

pub returns-clause-rows : goal.returns-clause-rows
returns-clause-rows c =
    let engine = c.in_ok-engine.engine in
    let run = run_parts_of c.args.run.now in
    record {
      steps = engine.steps;
      events = engine.sched.standing.events;
      journal = journal_of_engine run c.args.arrivals.now engine c.in_ok-engine.ensures.run;
      text = rows_told FqCodel run.every _ engine.sched.standing.events _ c.in_ok-text.text.items c.give_up-left.ensures.told c.journal_laws.ensures.laws c.in_ok-text.ensures;
    }

pub returns-clause-note : goal.returns-clause-note
returns-clause-note c =
    note_of_engine (run_parts_of c.args.run.now) c.args.arrivals.now c.in_ok-engine.engine _ c.in_ok-note.note.items c.recorder.ensures.told c.in_ok-engine.ensures.run c.in_ok-note.ensures

pub rows_of_bins-requires : goal.rows_of_bins-requires
rows_of_bins-requires c =
    let new = c.in_ok-events.ensures in
    c.give_up-left.ensures.made_for ∙ c.in_ok-engine.ensures.made_for ∙ (λ i. shape_of (new.queue i) (new.every i))
