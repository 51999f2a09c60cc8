use Rattle.std.proofs.Common.{◌≡◌, ◌≤◌, Err, length, rules}
use Rattle.row_core.proofs.RecordLemmas.{rows_fault, rows_read}
use Rattle.trace_core.proofs.TraceRunLemmas.{bytes_bound}
use Rattle.trace_core.proofs.trace_run.run_between.Goals as goal

pub returns-in_err-report-clause-trace : goal.returns-in_err-report-clause-trace
returns-in_err-report-clause-trace g c =
    let err : c.from_residual-in_err-report.result ≡ Err c.in_err-report.field-0.0 = search rules in
    let text = c.in_ok-text.text.items in
    let small : length text ≤ 134217728 = search rules in
    rw err (λ why is.
    let stops = rw c.deref.ensures.value at c.in_err-report.ensures.trace why is in
    rows_fault (g.S.Source.remaining c.args.source.now) text g.S.Records.Cut stops.0 why c.in_ok-text.ensures.whole stops.1 _ small)

pub returns-in_err-report-clause-read : goal.returns-in_err-report-clause-read
returns-in_err-report-clause-read g c =
    let err : c.from_residual-in_err-report.result ≡ Err c.in_err-report.field-0.0 = search rules in
    rw err (λ why is.
    let stops = rw c.deref.ensures.value at c.in_err-report.ensures.trace why is in
    rows_read _ c.in_ok-text.text.items g.S.Records.Cut stops.0 why c.in_ok-text.ensures.whole stops.1 _)

pub returns-in_err-report-clause-memory : goal.returns-in_err-report-clause-memory
returns-in_err-report-clause-memory g c =
    let err : c.from_residual-in_err-report.result ≡ Err c.in_err-report.field-0.0 = search rules in
    let text = c.in_ok-text.text.items in
    let small : length text ≤ 134217728 = search rules in
    rw err (λ is. (c.in_ok-text.ensures.ended, bytes_bound (g.S.Source.remaining c.args.source.now) text 134217728 c.in_ok-text.ensures.whole small))
