use Rattle.std.proofs.Common.{◌≡◌, Err, length, rules}
use Rattle.std.proofs.lemmas.Bool.{le-ltb}
use Rattle.journal_core.specs.Runs.{journal_of}
use Rattle.row_core.specs.Traces.{reader_of}
use Rattle.trace_core.specs.Report.{AddsToReport}
use Rattle.trace_core.proofs.trace_run.text_of.Goals as goal

pub returns-clause-report : goal.returns-clause-report
unfolding AddsToReport
returns-clause-report g c = λ params seed made.
    let text = c.args.text.now in
    let (steps, read, run) = c.in_ok-run_rows.ensures.run text c.new.ensures in
    let journal : c.run_rows.new.sched.standing.events ≡ journal_of run.made = rw made at run.journal in
    record {
      steps = steps;
      made = run.made;
      last = c.run_rows.new.sched.standing.state;
      read = rw (le-ltb 134217728 (length text) c.requires.short) read;
      runs = rw made at run.runs;
      told = rw journal at (c.in_ok-finish.ensures {u = tt} _ (run.told _ c.new-report.ensures));
    }

pub returns-in_err-run_rows-clause-trace : goal.returns-in_err-run_rows-clause-trace
returns-in_err-run_rows-clause-trace g c =
    let err : c.from_residual.result ≡ Err c.in_err-run_rows.field-0.0 = search rules in
    rw err (λ why is. (reader_of c.run_rows.new.rows, c.in_err-run_rows.ensures.trace why is c.args.text.now c.new.ensures))
