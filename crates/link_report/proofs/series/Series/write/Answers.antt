use Rattle.std.proofs.Common.{refl}
use Rattle.link_report.proofs.SeriesLemmas.{bin_ends}
use Rattle.link_report.proofs.SummaryLemmas.{sorted_up}
use Rattle.link_report.proofs.series.Series.write.Goals as goal

pub returns-clause-walk : goal.returns-clause-walk
returns-clause-walk c = λ before walk at.
    let old = c.args.self.now in
    let order = c.in_ok-sort.ensures {u = tt} in
    let told = c.in_ok-rows.ensures {u = tt} in
    bin_ends before old c.deref.result.now c.args.table.now c.write_rows.new.table walk c.saturating_mul-from.result c.write_rows.new.happenings.items c.in_ok-rows.rows.items (record old { happenings = c.write_rows.new.happenings; rows = c.in_ok-rows.rows }) at
    (rw c.deref.ensures.value order.permutation) (rw c.deref.ensures.value (sorted_up _ order.sorted)) c.saturating_mul-from.ensures told.text told.happenings told.rows refl refl refl refl refl
