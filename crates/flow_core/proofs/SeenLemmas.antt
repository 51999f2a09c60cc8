-- The bytes of the flows, as callers of a tree of winners see them: those of the leaves, as far as there are flows.
use Rattle.std.proofs.Common.{◌≡◌, ℕ, ◌*◌, ◌^◌, ◌<◌, ◌≤◌, inl, inr, List, All, length, get_or, take, refl, sym, ◌∙◌, arith}
use Rattle.std.proofs.lemmas.Bool.{cases_lt}
use Rattle.std.proofs.lemmas.List.{get_or-take, get_or_past, length-take-le}
use Rattle.std.proofs.lemmas.List.Elements.{All-from_get_or}
use Rattle.std.proofs.Math.Pow.{pow_mono}
use Rattle.flow_core.specs.declared.winner_tree.WinnerTree.TheInside.{Inside}
use Rattle.flow_core.specs.Winners.{HasMostBytes}
use Rattle.flow_core.specs.WinnerNodes.{AreBelowFrom, IsTree, WinsOver}
use Rattle.flow_core.specs.WinnersKept.{HasWinners}
use Rattle.flow_core.proofs.TopLemmas.{none_waits_below, top_wins}

module _ (t : Inside) (has : HasWinners t) where
  flows_seen : length (take t.flows t.bytes.items) ≡ t.flows
  flows_seen = length-take-le t.flows t.bytes.items (omega (arith, has.levels.enough, has.leaves, t.bytes.ok.0))

  count_seen : (flow : ℕ) → get_or (take t.flows t.bytes.items) flow 0 ≡ get_or t.bytes.items flow 0
  count_seen flow = elim (cases_lt flow t.flows) [
    | inl within ↦ get_or-take t.flows t.bytes.items flow 0 within
    | inr past ↦ get_or_past (take t.flows t.bytes.items) flow 0 (omega (arith, flows_seen)) ∙ sym (has.unused flow past)
  ]

  -- the winner at the top has the most, where it has any
  pub most_seen : 0 < get_or t.bytes.items (get_or t.winners.items t.top.node 0) 0 → HasMostBytes (take t.flows t.bytes.items) (get_or t.winners.items t.top.node 0)
  most_seen waits =
      let most = get_or t.winners.items t.top.node 0 in
      let over : (other : ℕ) → 0 < get_or t.bytes.items other 0 → WinsOver t.bytes.items most other = λ other busy. top_wins has.tree other busy in
      record {
        within = elim (cases_lt most t.flows) [
          | inl within ↦ omega (arith, flows_seen)
          | inr past ↦ absurd (omega (arith, has.unused most past))
        ];
        waits = omega (arith, count_seen most);
        greatest = λ other. elim (cases_lt 0 (get_or t.bytes.items other 0)) [
          | inl busy ↦ omega (arith, count_seen most, count_seen other, over other busy)
          | inr none ↦ omega (arith, count_seen other)
        ];
        least = λ other less. elim (cases_lt 0 (get_or t.bytes.items other 0)) [
          | inl busy ↦ omega (arith, count_seen most, count_seen other, over other busy)
          | inr none ↦ omega (arith, count_seen most, count_seen other)
        ];
      }

  -- no flow has any where it has none
  pub none_seen : get_or t.bytes.items (get_or t.winners.items t.top.node 0) 0 ≡ 0 → All (λ b. b ≡ 0) (take t.flows t.bytes.items)
  none_seen none =
      All-from_get_or (λ (b : ℕ). b ≡ 0) (take t.flows t.bytes.items) 0 (λ flow within. omega (arith, count_seen flow, none_waits_below has.tree none flow))

-- where no flow has bytes the first leaf can be the top
pub first_tree : (levels : ℕ) (bytes winners : List ℕ) → levels ≤ 16 → length bytes ≡ 2 ^ levels → length winners ≡ 2 * 2 ^ levels → AreBelowFrom (2 ^ levels) 1 winners
    → ((flow : ℕ) → get_or bytes flow 0 ≡ 0) → IsTree (2 ^ levels) bytes winners (2 ^ levels) 0
first_tree levels bytes winners most counts nodes held none =
    let some : 2 ^ 0 ≤ 2 ^ levels = pow_mono {i = 0} {j = levels} (omega arith) in
    record {
      levels = levels;
      doubled = refl;
      most = most;
      counts = counts;
      nodes = nodes;
      some = omega arith;
      within = omega arith;
      above = record { flow = 0; within = omega arith; meets = omega arith };
      held = held;
      right = λ node from within. record { below = held node (omega arith) within; wins = λ other below waits. absurd (omega (arith, none other)) };
      busy = λ flow waits. absurd (omega (arith, none flow));
    }
