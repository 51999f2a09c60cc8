use Rattle.std.proofs.Common.{◌≡◌, Err, inl, inr, refl, rules}
use Rattle.std.proofs.lemmas.Result.{IfErr-weaker, IfOk-weaker}
use Rattle.link_command.specs.CommandLine.{texts_of}
use Rattle.link_command.specs.RunsSaid.{run_parts_of}
use Rattle.link_command.proofs.RunLemmas.{input_fails, table_fails, words_fail}
use Rattle.link_command.proofs.program_run.run_text.Goals as goal

pub returns-in_err-run-clause-fault : goal.returns-in_err-run-clause-fault
returns-in_err-run-clause-fault g c =
    let err : c.from_residual.result ≡ Err c.in_err-run.field-0.0 = search rules in
    rw err (words_fail _ (texts_of c.args.request.now) (g.R.Source.remaining c.args.reader.now) c.in_err-run.field-0.0 c.in_err-run.ensures.fault)

pub returns-in_err-arrivals-clause-fault : goal.returns-in_err-arrivals-clause-fault
returns-in_err-arrivals-clause-fault g c =
    let err : c.from_residual-in_err-arrivals.result ≡ Err c.in_err-arrivals.field-0.0 = search rules in
    rw err (input_fails _ (texts_of c.args.request.now) (g.R.Source.remaining c.args.reader.now) (run_parts_of c.in_ok-run.run') c.in_err-arrivals.field-0.0 c.in_ok-run.ensures.run c.in_err-arrivals.ensures.fault)

pub returns-clause-text : goal.returns-clause-text
returns-clause-text g c =
    let made = rw c.deref-2.ensures.value at c.table_text.ensures.text in
    IfOk-weaker c.table_text.result _ _
    (λ report table. record {
      run = run_parts_of c.in_ok-run.run';
      said = c.in_ok-run.ensures.run;
      arrivals = c.in_ok-arrivals.arrivals.items;
      are = c.in_ok-arrivals.ensures.arrivals;
      read = c.in_ok-arrivals.ensures.text;
      table = table;
    }) made

pub returns-clause-fault : goal.returns-clause-fault
returns-clause-fault g c =
    IfErr-weaker c.table_text.result _ _ (λ why memory. table_fails _ (texts_of c.args.request.now) (g.R.Source.remaining c.args.reader.now) why memory) c.table_text.ensures.fault

pub returns-clause-note : goal.returns-clause-note
returns-clause-note g c =
    let made = rw c.deref-2.ensures.value at c.table_text.ensures.note in
    IfOk-weaker c.table_text.result _ _
    (λ report note. record {
      run = run_parts_of c.in_ok-run.run';
      said = c.in_ok-run.ensures.run;
      arrivals = c.in_ok-arrivals.arrivals.items;
      are = c.in_ok-arrivals.ensures.arrivals;
      read = c.in_ok-arrivals.ensures.text;
      of_run = note;
    }) made

pub returns-in_err-run-clause-unread : goal.returns-in_err-run-clause-unread
returns-in_err-run-clause-unread g c = inr refl

pub returns-in_err-arrivals-clause-unread : goal.returns-in_err-arrivals-clause-unread
returns-in_err-arrivals-clause-unread g c = inl (run_parts_of c.in_ok-run.run', c.in_ok-run.ensures.run)

pub returns-clause-unread : goal.returns-clause-unread
returns-clause-unread g c = inl (run_parts_of c.in_ok-run.run', c.in_ok-run.ensures.run)
