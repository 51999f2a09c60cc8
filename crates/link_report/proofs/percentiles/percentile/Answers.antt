use Rattle.std.proofs.Common.{◌≡◌, ◌*◌, ◌∙◌, ap, arith, length, refl}
use Rattle.link_report.proofs.PercentileLemmas.{percentile_at, rank_is}
use Rattle.link_report.proofs.percentiles.percentile.Goals as goal

pub returns : goal.returns
returns c =
    let n = length c.args.sorted.now in
    let (low, enough, rank) = rank_is n c.args.percent _ c.div_ceil.result c.saturating_sub.result (ap (λ p. n * p) c.from.ensures) c.div_ceil.ensures c.saturating_sub.ensures c.requires.some c.requires.range in
    percentile_at c.args.sorted.now c.requires.sorted c.args.percent c.saturating_sub.result _ low refl enough rank
