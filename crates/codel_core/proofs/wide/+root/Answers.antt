use Rattle.std.proofs.Common.{arith}
use Rattle.codel_core.proofs.RootLemmas.{next_square_fits}
use Rattle.codel_core.proofs.wide.+root.Goals as goal

pub overflow_mul-odd : goal.overflow_mul-odd
overflow_mul-odd t c = omega (arith, next_square_fits c.args.v c.root-even.result c.ranges.v.fits c.root-even.ensures)
