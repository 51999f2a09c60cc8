use Rattle.std.proofs.lemmas.Result.{on_ok_weaker}
use Rattle.trace_core.specs.Report.{AddsToReport}
use Rattle.trace_core.proofs.report.Rows.journal_rows.Goals as goal

pub returns : goal.returns
unfolding AddsToReport
returns c =
    let events = rw c.events.ensures.value at (c.in_ok-events.ensures {u = tt} _ c.requires) in
    let totals = rw c.totals.ensures.value at (c.in_ok-totals.ensures {u = tt} _ events) in
    let tuples = rw (c.deref.ensures.value, c.in_ok-tuple_rows.ensures.rows) at (c.in_ok-tuples.ensures {u = tt} _ totals) in
    on_ok_weaker c.senders.result (λ adds. adds _ tuples) c.senders.ensures
