use Rattle.std.proofs.Common.{◌∙◌, subst}
use Rattle.run_core.specs.DeviceRuns.{IsIdle}
use Rattle.run_core.proofs.DeviceRunLemmas.{finished}
use Rattle.run_core.proofs.LaneRunLemmas.{on_ok_so}
use Rattle.run_core.proofs.lanes.finish.Goals as goal

pub returns-clause-steps : goal.returns-clause-steps
returns-clause-steps g c =
    on_ok_so c.empty.result _ _
    (finished c.args.device.now.engine.steps c.close.new.device.engine.steps c.empty.new.device.engine.steps c.last_moment-now.result c.last_moment-now.ensures c.in_ok-close.ensures.closed)
    c.empty.ensures.steps

pub returns-clause-idle : goal.returns-clause-idle
returns-clause-idle g c = on_ok_so c.empty.result _ _ (subst (λ now. IsIdle now c.empty.new.device.engine) c.last_moment-now.ensures) c.empty.ensures.idle

pub returns-clause-accepted : goal.returns-clause-accepted
returns-clause-accepted g c lane = c.empty.ensures.accepted lane ∙ c.close.ensures.accepted lane
