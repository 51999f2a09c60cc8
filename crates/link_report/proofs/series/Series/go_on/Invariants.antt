use Rattle.std.proofs.Common.{◌≡◌, ◌≤◌, ℕ, ◌-◌, List, max}
use Rattle.link_report.specs.SeriesTables.{HasRowsBefore, Walk, later}
use Rattle.link_report.proofs.series.Series.go_on.Given as goal

-- the queue and the width of bins stay the same, and the walk is at the start of this bin
abbrev pub invariant-loop-turn : goal.invariant-loop-turn
invariant-loop-turn l = record {
  queue : l.self.queue ≡ l.initial.self.queue;
  every : l.self.every ≡ l.initial.self.every;
  bin : l.self.bin ≡ l._turn;
  most : l._turn ≤ max l.initial.self.bin l.bin;
  walk : (before : List ℕ) (walk : Walk) → HasRowsBefore before l.initial.self l.initial.table walk → HasRowsBefore before l.self l.table (later (l._turn - l.initial.self.bin) walk);
}
