use Rattle.std.proofs.Common.{ℕ, List, length, take}
use Rattle.link_report.specs.Packets.{known_of}
use Rattle.link_report.specs.SeriesTables.{HasRowsBefore, walked}
use Rattle.link_report.specs.Tables.{HasTableText}
use Rattle.link_report.proofs.series.queue_rows.Given as goal

-- the walk over the events so far
abbrev pub invariant-loop-event : goal.invariant-loop-event
invariant-loop-event l =
    (before : List ℕ) → HasTableText l.initial.table before
    → HasRowsBefore before l.series l.table (walked l.fn.queue l.every (length (known_of l.events).tuples) (known_of l.events).packets (take l.event-index l.events))
