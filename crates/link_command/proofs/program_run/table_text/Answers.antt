use denote.Enum.Bare.{same_false, same_true}
use Rattle.std.proofs.Common.{◌≡◌, ◌≢◌, rules, sym}
use Rattle.std.proofs.KnownBytes.{Keeps-trans}
use Rattle.std.proofs.lemmas.Result.{IfOk-weaker}
use Rattle.link_command.specs.RunsSaid.{run_parts_of}
use Rattle.link_command.specs.contracts.command_line.TableName.{the_type}
use Rattle.link_command.specs.declared.command_line.TableName.TheVariants.{Steps}
use Rattle.link_command.proofs.RunLemmas.{few_of_engine, journal_of_engine, journal_table, note_of_engine, steps_table}
use Rattle.link_command.proofs.program_run.table_text.Goals as goal

pub returns-then-eq-clause-text : goal.returns-then-eq-clause-text
returns-then-eq-clause-text g c =
    let same : c.args.request.now.table ≡ Steps = same_true the_type (search rules) _ _ (sym c.if-eq.ensures) in
    IfOk-weaker c.trace_text.result _ _
    (λ report h. record { steps = h.steps; events = h.events; journal = h.journal; table = steps_table _ _ _ _ _ _ _ same h.trace })
    c.trace_text.ensures.text

pub returns-clause-text : goal.returns-clause-text
returns-clause-text g c =
    let other : c.args.request.now.table ≢ Steps = same_false the_type _ _ (sym c.if-eq.ensures) in
    IfOk-weaker c.noted_text.result _ _
    (λ report h. record {
      steps = c.in_ok-engine.engine.steps;
      events = c.in_ok-engine.engine.sched.standing.events;
      journal = journal_of_engine (run_parts_of c.args.run.now) c.args.arrivals.now c.in_ok-engine.engine c.in_ok-engine.ensures.run;
      table = journal_table _ _ _ _ _ _ _ other h;
    }) (rw c.recorder.ensures.told at c.noted_text.ensures.text)

pub returns-clause-note : goal.returns-clause-note
returns-clause-note g c =
    IfOk-weaker c.noted_text.result _ _
    (λ report h. note_of_engine (run_parts_of c.args.run.now) c.args.arrivals.now c.in_ok-engine.engine _ report.note.items c.recorder.ensures.told c.in_ok-engine.ensures.run h)
    c.noted_text.ensures.note

pub noted_text-requires-clause-events_few : goal.noted_text-requires-clause-events_few
noted_text-requires-clause-events_few g c =
    rw c.recorder.ensures.told (few_of_engine (run_parts_of c.args.run.now) c.args.arrivals.now c.in_ok-engine.engine c.few_events.ensures c.in_ok-engine.ensures.run c.requires.few)

pub noted_text-requires-clause-end : goal.noted_text-requires-clause-end
noted_text-requires-clause-end g c = rw c.recorder.ensures.told c.in_ok-engine.ensures.end

pub returns-clause-quiet : goal.returns-clause-quiet
returns-clause-quiet g c = λ none. Keeps-trans _ _ _ (c.note_run.ensures none) (c.noted_text.ensures.quiet none)
