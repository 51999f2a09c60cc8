use Rattle.std.proofs.Common.{◌≤◌, take}
use Rattle.sender_core.proofs.RoomLemmas.{Counts}
use Rattle.sender_core.proofs.room.Expected.of.Given as goal

abbrev pub invariant-loop-step : goal.invariant-loop-step
invariant-loop-step l = record {
  counts : Counts (take l.step-index l.steps) l.packets l.dequeues;
  packets_fit : l.packets ≤ l.step-index;
  dequeues_fit : l.dequeues ≤ l.step-index;
}
