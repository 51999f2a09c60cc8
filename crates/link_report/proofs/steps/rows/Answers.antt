use Rattle.std.proofs.Common.{◌≡◌, arith, refl, take}
use Rattle.std.proofs.lemmas.List.{take_all}
use Rattle.link_report.specs.StepTables.{step_line}
use Rattle.link_report.proofs.TableLemmas.{adds_line, adds_none}
use Rattle.link_report.proofs.steps.rows.Goals as goal

pub loop-step-init : goal.loop-step-init
loop-step-init c = adds_none c.args.table.now

pub loop-step-preserved : goal.loop-step-preserved
loop-step-preserved c =
    adds_line step_line c.args.steps.now c.loop-step.step-index _ _ _ _ _ (omega arith) c.step-item.is c.loop-step.invariant c.in_ok-row.ensures

pub returns : goal.returns
returns c =
    let all : take c.loop-step.step-index c.args.steps.now ≡ c.args.steps.now = take_all _ _ (omega arith) in
    rw all at c.loop-step.invariant
