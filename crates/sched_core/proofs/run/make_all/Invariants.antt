use Rattle.std.proofs.Common.{◌≡◌, take}
use Rattle.packet_core.specs.declared.flow.Seed.{Seed}
use Rattle.packet_core.specs.declared.params.ParamFields.{ParamFields}
use Rattle.sched_core.specs.Engines.{HasRun, new_engine}
use Rattle.sched_core.proofs.run.make_all.Given as goal

-- the steps so far are made
abbrev pub invariant-loop-step : goal.invariant-loop-step
invariant-loop-step l = (params : ParamFields) → (seed : Seed) → l.initial.engine ≡ new_engine params seed
    → HasRun params seed l.steps (take l.step-index l.steps) l.outcomes.items l.engine
