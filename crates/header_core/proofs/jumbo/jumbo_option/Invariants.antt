-- The walk stands behind other options alone.
use Rattle.std.proofs.Common.{ℕ, ◌-◌, ◌≤◌}
use Rattle.header_core.proofs.JumboLemmas.{Looks}
use Rattle.header_core.proofs.jumbo.jumbo_option.Given as goal

abbrev pub invariant-loop-at : goal.invariant-loop-at
invariant-loop-at l = record {
  walk : (k : ℕ) × Looks l.bytes l.at k;
  bound : l.at ≤ 2400;
}

abbrev pub decreases-loop-at : goal.decreases-loop-at
decreases-loop-at l = 2400 - l.at
