use Rattle.std.proofs.Common.{◌≡◌}
use Rattle.link_picture.specs.Percentages.{percentiles_of}
use Rattle.link_picture.proofs.curves.percentiles_of.Given as goal

-- the percentiles so far
abbrev pub invariant-loop-percent : goal.invariant-loop-percent
invariant-loop-percent l = l.percentiles.items ≡ percentiles_of l.percent l.fn.delays.items
