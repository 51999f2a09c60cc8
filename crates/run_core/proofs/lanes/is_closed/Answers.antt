use Rattle.std.proofs.Common.{◌∙◌, ap}
use Rattle.sched_core.specs.Engines.{Running}
use Rattle.sched_core.specs.Schedulers.{discipline_of}
use Rattle.run_core.specs.DeviceRuns.{has_close}
use Rattle.run_core.proofs.DeviceRunLemmas.{close_of_run}
use Rattle.run_core.proofs.lanes.is_closed.Goals as goal

pub returns : goal.returns
returns g c =
    let e = c.engine-engine.result.now in
    c.is_closed.ensures.value ∙ close_of_run (discipline_of e.sched) e.steps e.sched.standing c.run_of_steps.ensures
    ∙ ap (λ (e : Running). has_close e.steps) c.engine-engine.ensures.value
