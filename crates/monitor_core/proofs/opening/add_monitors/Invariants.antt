use Rattle.std.proofs.Common.{◌≡◌, ◌≤◌, [], replicate, vec_capacity}
use Rattle.monitor_core.proofs.opening.add_monitors.Given as goal

abbrev pub invariant-loop : goal.invariant-loop
invariant-loop g l = (l.all.items ≡ replicate l.counter []) × (l.monitors ≤ vec_capacity l.all)
