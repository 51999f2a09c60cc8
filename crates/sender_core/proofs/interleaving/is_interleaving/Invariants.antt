use Rattle.std.proofs.Common.{◌≤◌, drop, length, replicate, take, false}
use Rattle.sender_core.specs.Interleavings.{Comes, MayCome}
use Rattle.sender_core.proofs.interleaving.is_interleaving.Given as goal

abbrev pub invariant-loop-step : goal.invariant-loop-step
invariant-loop-step l = record {
  comes : Comes l.lists l.rows (take l.step-index l.steps) l.walk.last l.walk.met l.walk.row l.walk.closed;
  whole : length l.lists ≤ 64 → MayCome l.lists l.rows l.steps 0 (replicate 64 0) 0 false
      → MayCome l.lists l.rows (drop l.step-index l.steps) l.walk.last l.walk.met l.walk.row l.walk.closed;
}
