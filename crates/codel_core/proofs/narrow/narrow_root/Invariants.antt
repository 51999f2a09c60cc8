use Rattle.std.proofs.Common.{◌^◌, ◌≤◌}
use Rattle.codel_core.proofs.RootLemmas.{IsPartialRoot}
use Rattle.codel_core.proofs.narrow.narrow_root.Given as goal

abbrev pub invariant-loop-unit : goal.invariant-loop-unit
invariant-loop-unit l = IsPartialRoot l.v l.unit l.root l.rest × (l.unit ≤ 2 ^ 62)

abbrev pub decreases-loop-unit : goal.decreases-loop-unit
decreases-loop-unit l = l.unit
