-- A publisher as callers see it.
use Rattle.std.specs.Prelude.{List, []}
use Rattle.journal_core.specs.declared.event.Event.{Event}

-- the events that stand in the book, and those that are shown
pub record Published : Type 0 where
  pub reached : List Event
  pub shown : List Event

-- before the first publish
abbrev pub nothing_published : Published
nothing_published = record { reached = []; shown = [] }
