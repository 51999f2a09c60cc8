use Rattle.std.specs.Prelude.{Some, slice_get}
use Rattle.std.proofs.Common.{◌≡◌, ◌∙◌, arith, length, refl, subst}
use Rattle.std.proofs.lemmas.List.{take_all}
use Rattle.std.proofs.lemmas.Option.{get_or_from_slice_get}
use Rattle.journal_core.specs.declared.step.Step.TheVariants.{Dequeue}
use Rattle.run_core.specs.DeviceRuns.{ServesRow, ServesRows}
use Rattle.run_core.proofs.DeviceRunLemmas.{rows_taken}
use Rattle.run_core.proofs.LaneRunLemmas.{same_more, same_still}
use Rattle.run_core.proofs.lanes.serve.Goals as goal

pub loop-step-init : goal.loop-step-init
loop-step-init g c = (same_still c.args.device.now, (refl, refl), omega arith, λ some at moment next is. absurd (omega (arith, next)))

pub loop-step-preserved : goal.loop-step-preserved
loop-step-preserved g c =
    let lanes = length c.args.device.now.lanes in
    let mid = c.loop-step.device in
    let new = c.serve_row.new.device in
    let row = subst (λ n. ServesRow n c.loop-step.now mid.engine.steps c.step-item.result c.in_ok-now.now new.engine.steps) c.loop-step.invariant.0.number c.in_ok-now.ensures.row in (
      same_more c.args.device.now mid new c.loop-step.invariant.0 c.serve_row.ensures.same,
      rows_taken lanes c.args.device.now.engine.steps c.args.steps.now c.loop-step.step-index c.loop-step.now c.in_ok-now.now c.step-item.result mid.engine.steps new.engine.steps
          c.loop-step-test.true c.step-item.is c.loop-step.invariant.1 row,
      omega (arith, c.loop-step-test.true),
      λ some at moment next is.
          let here : at ≡ c.loop-step.step-index = omega (arith, next) in
          let dequeue : c.step-item.result ≡ Dequeue moment =
          c.step-item.is ∙ get_or_from_slice_get c.args.steps.now c.loop-step.step-index (Dequeue moment) c.step-item.result
          (subst (λ i. slice_get c.args.steps.now i ≡ Some (Dequeue moment)) here is) in
          rw c.in_ok-now.was at (c.serve_row.ensures.shown some moment dequeue),
    )

pub returns-clause-shown : goal.returns-clause-shown
returns-clause-shown g c =
    λ some at moment next is. c.loop-step.invariant.3 some at moment (omega (arith, next, c.loop-step.invariant.2, c.loop-step-test.false)) is

pub returns-clause-rows : goal.returns-clause-rows
returns-clause-rows g c = (
  c.loop-step.now,
  subst (λ rows. ServesRows (length c.args.device.now.lanes) 0 c.args.device.now.engine.steps rows c.loop-step.now c.loop-step.device.engine.steps)
      (take_all c.loop-step.step-index c.args.steps.now (omega (arith, c.loop-step-test.false))) c.loop-step.invariant.1,
)
