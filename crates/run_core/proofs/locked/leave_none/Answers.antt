use Rattle.std.proofs.Common.{◌≡◌, All, arith, subst}
use Rattle.std.proofs.lemmas.List.{take_all}
use Rattle.run_core.proofs.LeftLemmas.{none_left_more, one_left}
use Rattle.run_core.proofs.locked.leave_none.Goals as goal

pub loop-row-preserved : goal.loop-row-preserved
loop-row-preserved c = none_left_more c.args.rows.now c.loop-row.row-index _ c.loop-row-test.true c.loop-row.invariant (c.is_left.ensures.none c.if-is_left.false)

pub returns-then-is_left-clause-some : goal.returns-then-is_left-clause-some
returns-then-is_left-clause-some c =
    λ found all. one_left c.args.rows.now c.loop-row.row-index _ c.loop-row-test.true (c.is_left.ensures.some c.if-is_left.true) all

pub returns-clause-none : goal.returns-clause-none
returns-clause-none c = λ all. subst (λ rows. All (λ row. row.left ≡ 0) rows) (take_all c.loop-row.row-index c.args.rows.now (omega (arith, c.loop-row-test.false))) c.loop-row.invariant
