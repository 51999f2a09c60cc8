use Rattle.std.proofs.Common.{◌*◌, ◌/◌, ◌^◌, ◌≤◌, arith}
use Rattle.std.proofs.Math.Pow.{pow_mono}
use Rattle.std.proofs.lemmas.Nat.{one_shl}
use Rattle.codel_core.proofs.RootLemmas.{first_unit_le, first_digit, digit_one, digit_zero}
use Rattle.codel_core.proofs.narrow.narrow_root.Goals as goal

pub overflow_sub-rest : goal.overflow_sub-rest
overflow_sub-rest c = rw (one_shl (c.ilog2.result / 2 * 2) 64 (omega arith)) (first_unit_le c.args.v c.ilog2.result c.ilog2.ensures.power_le)

pub loop-unit-init : goal.loop-unit-init
loop-unit-init c =
    let bound : 2 ^ (c.ilog2.result / 2 * 2) ≤ 2 ^ 62 = pow_mono {j = 62} (omega arith) in
    rw (one_shl (c.ilog2.result / 2 * 2) 64 (omega arith)) (first_digit c.args.v c.ilog2.result c.ilog2.ensures.power_le c.ilog2.ensures.next_power_gt, bound)

pub loop-unit-preserved-then-rest-trial : goal.loop-unit-preserved-then-rest-trial
loop-unit-preserved-then-rest-trial c = (digit_one c.args.v c.loop-unit.unit c.loop-unit.root c.loop-unit.rest c.loop-unit.invariant.0 (omega arith) (omega arith), omega arith)

pub loop-unit-preserved : goal.loop-unit-preserved
loop-unit-preserved c = (digit_zero c.args.v c.loop-unit.unit c.loop-unit.root c.loop-unit.rest c.loop-unit.invariant.0 (omega arith) (omega arith), omega arith)
