use Rattle.std.proofs.Common.{◌∙◌, ap, arith}
use Rattle.link_report.specs.StepTables.{steps_text}
use Rattle.link_command.specs.RunsSaid.{run_parts_of}
use Rattle.link_report.proofs.ShapeLemmas.{most_of_shape}
use Rattle.link_command.proofs.RunLemmas.{few_of_engine, journal_of_engine, note_of_engine}
use Rattle.link_command.proofs.program_run.trace_text.Goals as goal

pub returns-clause-text : goal.returns-clause-text
returns-clause-text g c = record {
  steps = c.in_ok-engine.engine.steps;
  events = c.in_ok-engine.engine.sched.standing.events;
  journal = journal_of_engine (run_parts_of c.args.run.now) c.args.arrivals.now c.in_ok-engine.engine c.in_ok-engine.ensures.run;
  trace = c.in_ok-text.ensures ∙ ap steps_text (c.deref.ensures.value ∙ c.into_steps.ensures ∙ c.give_up-left.ensures.steps);
}

pub returns-clause-note : goal.returns-clause-note
returns-clause-note g c =
    note_of_engine (run_parts_of c.args.run.now) c.args.arrivals.now c.in_ok-engine.engine _ c.in_ok-note.note.items c.give_up-left.ensures.told c.in_ok-engine.ensures.run c.in_ok-note.ensures

pub last_note-requires : goal.last_note-requires
last_note-requires g c =
    let few = few_of_engine (run_parts_of c.args.run.now) c.args.arrivals.now c.in_ok-engine.engine c.few_events.ensures c.in_ok-engine.ensures.run c.requires.few in
    let most = most_of_shape c.give_up-left.result.0.recorder c.recorder_for-events.result (c.give_up-left.ensures.made_for ∙ c.in_ok-engine.ensures.made_for) in
    rw c.give_up-left.ensures.told (omega (arith, few, most, c.recorder_for-events.ensures.most))
