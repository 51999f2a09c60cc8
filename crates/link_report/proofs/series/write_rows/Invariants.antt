use Rattle.std.proofs.Common.{take}
use Rattle.link_report.specs.SeriesTables.{AreRows}
use Rattle.link_report.proofs.SeriesLemmas.{Wrote}
use Rattle.link_report.proofs.series.write_rows.Given as goal

-- the rows so far are written
abbrev pub invariant-loop-number : goal.invariant-loop-number
invariant-loop-number l =
    AreRows l.initial.happenings.items l.numbers
    → Wrote l.queue l.from l.initial.happenings.items (take l.number-index l.numbers) l.initial.table l.table l.happenings.items l.rows.items
