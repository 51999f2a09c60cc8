use Rattle.std.proofs.Common.{◌≡◌, ◌≤◌, ◌-◌, ◌++◌, length, max, replicate}
use Rattle.link_report.specs.SeriesTables.{nothing}
use Rattle.link_report.proofs.series.Series.widen.Given as goal

-- there is room for so many so far
abbrev pub invariant-loop-number : goal.invariant-loop-number
invariant-loop-number l = record {
  queue : l.self.queue ≡ l.initial.self.queue;
  every : l.self.every ≡ l.initial.self.every;
  bin : l.self.bin ≡ l.initial.self.bin;
  rows : l.self.rows.items ≡ l.initial.self.rows.items;
  least : length l.initial.self.happenings.items ≤ l._number;
  most : l._number ≤ max (length l.initial.self.happenings.items) l.tuples;
  happenings : l.self.happenings.items ≡ l.initial.self.happenings.items ++ replicate (l._number - length l.initial.self.happenings.items) nothing;
}
