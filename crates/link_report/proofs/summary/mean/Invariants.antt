use Rattle.std.proofs.Common.{◌≡◌, ◌*◌, ◌-◌, ◌^◌, ◌≤◌, sum, take}
use Rattle.link_report.proofs.summary.mean.Given as goal

-- the sum so far
abbrev pub invariant-loop-number : goal.invariant-loop-number
invariant-loop-number l =
    (l.total ≡ sum (take l.number-index l.numbers)) × (l.total ≤ (2 ^ 64 - 1) * l.number-index)
