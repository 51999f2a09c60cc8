use Rattle.std.proofs.Common.{arith}
use Rattle.link_report.proofs.SummaryLemmas.{few_delays}
use Rattle.link_picture.proofs.curves.Curve.of.Goals as goal

pub percentiles_of-requires : goal.percentiles_of-requires
percentiles_of-requires c = rw (c.in_ok-delays_of.ensures {u = tt}) (omega (arith, few_delays c.args.packets.now))
