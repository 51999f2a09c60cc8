use Rattle.std.proofs.lemmas.Result.{on_ok_weaker}
use Rattle.trace_core.specs.Report.{AddsToReport}
use Rattle.trace_core.proofs.report.Rows.statistics.Goals as goal

pub rows-requires-clause-follow : goal.rows-requires-clause-follow
rows-requires-clause-follow c = rw c.recorder.ensures.told c.journal_laws.ensures.laws.fates_follow

pub returns : goal.returns
unfolding AddsToReport
returns c =
    on_ok_weaker c.tuples.result
    (λ adds written h. rw (c.totals.ensures.value, c.deref.ensures.value, c.rows.ensures.rows, c.recorder.ensures.told) at (adds _ (c.in_ok-totals.ensures {u = tt} _ h)))
    c.tuples.ensures
