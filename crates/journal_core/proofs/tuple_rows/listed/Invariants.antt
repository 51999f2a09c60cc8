use Rattle.std.proofs.Common.{◌≡◌, take}
use Rattle.journal_core.proofs.tuple_rows.listed.Given as goal

-- the events so far are in the list
abbrev pub invariant-loop-event : goal.invariant-loop-event
invariant-loop-event l = l.list.items ≡ take l.event-index l.events
