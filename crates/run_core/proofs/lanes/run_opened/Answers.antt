use Rattle.std.proofs.lemmas.Result.{IfOk-weaker}
use Rattle.run_core.proofs.lanes.run_opened.Goals as goal

pub returns-clause-none_left : goal.returns-clause-none_left
returns-clause-none_left g c = IfOk-weaker c.run_watched.result _ _ (λ r run. run.none_left) c.run_watched.ensures.made
