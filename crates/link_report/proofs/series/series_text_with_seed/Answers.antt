use Rattle.std.proofs.Common.{[]}
use Rattle.std.proofs.lemmas.Result.{IfOk-weaker}
use Rattle.link_report.specs.Tables.{AddsToTable}
use Rattle.link_report.proofs.series.series_text_with_seed.Goals as goal

pub returns : goal.returns
unfolding AddsToTable
returns c =
    IfOk-weaker c.into_text.result _ _ (λ text told. told _ (c.in_ok-write_series.ensures {u = tt} [] c.new-table.ensures)) c.into_text.ensures
