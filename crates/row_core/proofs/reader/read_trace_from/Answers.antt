use Rattle.std.proofs.Common.{◌≤◌, length, rules}
use Rattle.std.proofs.lemmas.Result.{IfErr-weaker}
use Rattle.row_core.proofs.RecordLemmas.{rows_fault, rows_read}
use Rattle.row_core.specs.Traces.{reader_of}
use Rattle.row_core.proofs.reader.read_trace_from.Goals as goal

pub returns-clause-fault : goal.returns-clause-fault
returns-clause-fault g c =
    let text = c.in_ok-text.text.items in
    let small : length text ≤ 134217728 = search rules in
    let start = rw c.deref.ensures.value at c.new.ensures in
    IfErr-weaker c.all_steps.result _ _ (λ fault stops. rows_fault (g.S.Source.remaining c.args.source.now) text g.S.Records.Cut (reader_of c.all_steps.new.rows) fault c.in_ok-text.ensures.whole (stops text start) _ small) c.all_steps.ensures.fault

pub returns-clause-read : goal.returns-clause-read
returns-clause-read g c =
    let text = c.in_ok-text.text.items in
    let start = rw c.deref.ensures.value at c.new.ensures in
    IfErr-weaker c.all_steps.result _ _ (λ fault stops. rows_read _ text g.S.Records.Cut (reader_of c.all_steps.new.rows) fault c.in_ok-text.ensures.whole (stops text start) _) c.all_steps.ensures.fault
