use Rattle.std.proofs.Common.{refl}
use Rattle.codel_core.proofs.SpacingLemmas.{one_spacing_is}
use Rattle.codel_core.proofs.judge.enter.Goals as goal

pub returns : goal.returns
returns c =
    let spaced = one_spacing_is c.interval.result c.first_count-count.result c.spacing.result c.first_count-count.ensures.range.0 c.spacing.ensures in
    rw (← c.first_count-count.ensures.value, ← c.interval.ensures.value, ← spaced) refl
