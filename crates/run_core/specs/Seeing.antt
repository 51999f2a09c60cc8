-- What a monitor saw of a run.
use Rattle.std.specs.Prelude.{◌≡◌, ◌≤◌, List, length, take}
use Rattle.journal_core.specs.Statistics.{statistics}
use Rattle.journal_core.specs.declared.event.Event.{Event}
use Rattle.monitor_core.specs.declared.monitor.Seen.{Seen}

-- What a monitor saw: the statistics of as many events as it says.
pub record IsSeen (seen : Seen) : Type 0 where
  pub events : List Event
  pub totals : seen.totals ≡ statistics events
  pub count : seen.events ≡ length events

-- What was seen are the statistics of just these events.
pub record AreTotalsOf (events : List Event) (seen : Seen) : Type 0 where
  pub totals : seen.totals ≡ statistics events
  pub count : seen.events ≡ length events

-- What a monitor saw of a journal: the statistics of as many of its first events as it says.
pub record IsSeenOf (journal : List Event) (seen : Seen) : Type 0 where
  pub within : seen.events ≤ length journal
  pub first : seen.totals ≡ statistics (take seen.events journal)
