use Rattle.std.proofs.Common.{◌≡◌, replicate}
use Rattle.link_report.specs.SeriesTables.{nothing}
use Rattle.link_report.proofs.series.no_happenings.Given as goal

-- so many so far
abbrev pub invariant-loop-number : goal.invariant-loop-number
invariant-loop-number l = l.happenings.items ≡ replicate l._number nothing
