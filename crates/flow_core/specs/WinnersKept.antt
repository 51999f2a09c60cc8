-- How the fields of the tree give what callers see, and what they keep.
use Rattle.std.specs.Prelude.{◌≡◌, ℕ, ◌^◌, ◌<◌, ◌≤◌, All, get_or, take, vec_len}
use Rattle.flow_core.specs.declared.winner_tree.WinnerTree.TheInside.{Inside}
use Rattle.flow_core.specs.declared.limits.TheConstants.{MAX_FLOWS}
use Rattle.flow_core.specs.Winners.{ByteCounts, IsLevels}
use Rattle.flow_core.specs.WinnerNodes.{IsTree}

-- the counts as callers see them: those of the flows, and not of the leaves behind them
abbrev pub counts_of : Inside → ByteCounts
counts_of t = record { bytes = take t.flows t.bytes.items; comparisons = t.comparisons }

-- Each flow has a leaf and a count below 2^63, a leaf without a flow has no bytes, and the nodes hold what they should.
pub record HasWinners (t : Inside) : Type 0 where
  pub least : 1 ≤ t.flows
  pub most : t.flows ≤ MAX_FLOWS
  pub levels : IsLevels t.flows t.levels
  pub leaves : vec_len t.bytes ≡ 2 ^ t.levels
  pub small : All (λ b. b < 2 ^ 63) t.bytes.items
  pub unused : (flow : ℕ) → t.flows ≤ flow → get_or t.bytes.items flow 0 ≡ 0
  pub tree : IsTree (vec_len t.bytes) t.bytes.items t.winners.items t.top.node t.top.height
