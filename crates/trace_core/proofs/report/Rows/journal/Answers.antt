use Rattle.std.proofs.lemmas.Result.{IfOk-weaker}
use Rattle.trace_core.proofs.report.Rows.journal.Goals as goal

pub returns : goal.returns
returns c = IfOk-weaker c.into_text.result _ _ (λ text told. told _ (c.in_ok-journal_rows.ensures {u = tt})) c.into_text.ensures
