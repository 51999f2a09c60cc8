use Rattle.std.proofs.lemmas.Result.{on_ok_weaker}
use Rattle.trace_core.proofs.ReportLemmas.{adds_both}
use Rattle.trace_core.proofs.report.Rows.step.Goals as goal

pub returns : goal.returns
returns c = on_ok_weaker c.answer.result (adds_both _ _ _ _ _ c.in_ok-notes.ensures) c.answer.ensures
