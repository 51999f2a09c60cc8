use Rattle.std.proofs.Common.{◌≡◌, ◌<◌, arith, length}
use Rattle.std.proofs.lemmas.Grind.{common_steps}
use Rattle.link_report.proofs.SummaryLemmas.{sorted_up, spread_is}
use Rattle.link_report.proofs.summary.spread.Goals as goal

pub percentile-requires-clause-sorted : goal.percentile-requires-clause-sorted
percentile-requires-clause-sorted c = rw c.deref-2.ensures.value (sorted_up _ (c.in_ok-sort.ensures {u = tt}).sorted)

pub percentile-requires-2-clause-sorted : goal.percentile-requires-2-clause-sorted
percentile-requires-2-clause-sorted c = rw c.deref-3.ensures.value (sorted_up _ (c.in_ok-sort.ensures {u = tt}).sorted)

pub percentile-requires-3-clause-sorted : goal.percentile-requires-3-clause-sorted
percentile-requires-3-clause-sorted c = rw c.deref-4.ensures.value (sorted_up _ (c.in_ok-sort.ensures {u = tt}).sorted)

pub percentile-requires-4-clause-sorted : goal.percentile-requires-4-clause-sorted
percentile-requires-4-clause-sorted c = rw c.deref-5.ensures.value (sorted_up _ (c.in_ok-sort.ensures {u = tt}).sorted)

pub percentile-requires-5-clause-sorted : goal.percentile-requires-5-clause-sorted
percentile-requires-5-clause-sorted c = rw c.deref-6.ensures.value (sorted_up _ (c.in_ok-sort.ensures {u = tt}).sorted)

pub returns : goal.returns
returns c =
    let ok = c.args.delays.ok in
    let some : 0 < length c.args.delays.items = grind (arith, common_steps) in
    spread_is c.args.delays.items _ _ _ _ _ _ _ some (c.in_ok-sort.ensures {u = tt}).permutation (rw c.deref.ensures.value at c.mean-mean.ensures) (rw c.deref-2.ensures.value at c.percentile.ensures) (rw c.deref-3.ensures.value at c.percentile-2.ensures)
    (rw c.deref-4.ensures.value at c.percentile-3.ensures) (rw c.deref-5.ensures.value at c.percentile-4.ensures) (rw c.deref-6.ensures.value at c.percentile-5.ensures)
