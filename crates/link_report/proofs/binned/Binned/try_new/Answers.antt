use Rattle.link_report.proofs.BinLemmas.{binned_begins}
use Rattle.link_report.proofs.binned.Binned.try_new.Goals as goal

pub invariant_of-result : goal.invariant_of-result
invariant_of-result c = record {
  most = c.new-2.ensures.most;
  short = rw c.in_ok-new.ensures.ok c.new-2.ensures.short;
  rows = λ whole order.
      rw (c.in_ok-new.ensures.ok) (binned_begins c.args.queue c.args.every c.new-2.result.events c.in_ok-series.series c.new-table.result c.write_heading.new.table c.new-2.ensures.events (c.in_ok-series.ensures {u = tt}) c.new-table.ensures (c.in_ok-write_heading.ensures {u = tt}));
}
