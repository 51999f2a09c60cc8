use Rattle.std.proofs.lemmas.Result.{IfOk-weaker}
use Rattle.trace_core.proofs.report.Rows.finish.Goals as goal

pub returns : goal.returns
returns c =
    IfOk-weaker c.into_text.result _ _ (λ text told written h. told _ (c.in_ok-statistics.ensures {u = tt} written h)) c.into_text.ensures
