use Rattle.std.proofs.Common.{◌+◌, ◌≤◌}
use Rattle.test_allocations.proofs.recorders.tell.Given as goal

-- there is memory for the events that are left
abbrev pub invariant-loop-event : goal.invariant-loop-event
invariant-loop-event l = l.count ≤ l._event + l.gathered.room
