use Rattle.std.proofs.Common.{sym}
use Rattle.std.proofs.lemmas.Result.{IfOk-weaker}
use Rattle.link_report.specs.SeriesTables.{journal_walk}
use Rattle.link_report.proofs.binned.ended_text.Goals as goal

pub returns : goal.returns
returns c =
    let told = c.in_ok-write.ensures {u = tt} in
    let series = c.into_inner-series.result.series in
    rw (sym c.into_inner-series.ensures) (IfOk-weaker c.into_text.result _ _
    (λ text is. λ before events at. is _ (told.walk before (journal_walk series.queue series.every events) at).text) c.into_text.ensures)
