use Rattle.std.proofs.Common.{◌∙◌, ap, arith, sym}
use Rattle.std.proofs.lemmas.List.{take_all}
use Rattle.run_core.specs.DeviceRuns.{has_close}
use Rattle.run_core.proofs.LeftLemmas.{close_found, open_more}
use Rattle.run_core.proofs.locked.has_close.Goals as goal

pub loop-step-preserved : goal.loop-step-preserved
loop-step-preserved c =
    open_more c.args.steps.now c.loop-step.step-index c.step-item.result c.loop-step-test.true c.step-item.is c.loop-step.invariant (sym c.is_close.ensures ∙ c.if-is_close.false)

pub returns-then-is_close : goal.returns-then-is_close
returns-then-is_close c =
    sym (close_found c.args.steps.now c.loop-step.step-index c.step-item.result c.loop-step-test.true c.step-item.is c.loop-step.invariant (sym c.is_close.ensures ∙ c.if-is_close.true))

pub returns : goal.returns
returns c = sym (ap has_close (sym (take_all c.loop-step.step-index c.args.steps.now (omega (arith, c.loop-step-test.false)))) ∙ c.loop-step.invariant)
