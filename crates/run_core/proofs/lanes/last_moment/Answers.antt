use Rattle.std.proofs.Common.{◌∙◌, ap}
use Rattle.sched_core.specs.Engines.{Running}
use Rattle.sched_core.specs.Schedulers.{discipline_of}
use Rattle.run_core.specs.DeviceRuns.{last_moment}
use Rattle.run_core.proofs.DeviceRunLemmas.{moment_of_run}
use Rattle.run_core.proofs.lanes.last_moment.Goals as goal

pub returns : goal.returns
returns g c =
    let e = c.engine-engine.result.now in
    c.last_moment.ensures.value ∙ moment_of_run (discipline_of e.sched) e.steps e.sched.standing c.run_of_steps.ensures
    ∙ ap (λ (e : Running). last_moment e.steps) c.engine-engine.ensures.value
