use Rattle.std.proofs.Common.{◌≡◌, [], take}
use Rattle.link_report.specs.Groups.{groups_from}
use Rattle.link_report.proofs.groups.empty_groups.Given as goal

-- the groups so far
abbrev pub invariant-loop-number : goal.invariant-loop-number
invariant-loop-number l = l.groups.items ≡ groups_from 0 [] (take l.number l.tuples)
