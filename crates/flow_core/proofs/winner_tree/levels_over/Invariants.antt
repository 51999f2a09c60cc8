use Rattle.std.proofs.Common.{◌≡◌, ◌-◌, ◌*◌, ◌^◌, ◌<◌}
use Rattle.flow_core.proofs.winner_tree.levels_over.Given as goal

-- half of so many leaves are too few
abbrev pub invariant-loop-leaves : goal.invariant-loop-leaves
invariant-loop-leaves l = record { doubled : l.leaves ≡ 2 ^ l.levels; few : l.leaves < 2 * l.flows; fits : l.levels < l.leaves }

abbrev pub decreases-loop-leaves : goal.decreases-loop-leaves
decreases-loop-leaves l = l.flows - l.leaves
