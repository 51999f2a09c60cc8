use Rattle.std.proofs.lemmas.Result.{on_ok_weaker}
use Rattle.trace_core.proofs.ReportLemmas.{adds_within}
use Rattle.trace_core.proofs.report.Rows.row.Goals as goal

pub returns : goal.returns
returns c = on_ok_weaker c.row.result (λ adds. adds_within _ _ _ adds) c.row.ensures
