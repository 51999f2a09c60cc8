-- The top of a tree of winners: the flow with the most bytes is read there, and it moves where a flow outside of it gets
-- bytes.
use Rattle.std.proofs.Common.{◌≡◌, ◌≢◌, ℕ, ◌+◌, ◌*◌, ◌/◌, ◌<◌, ◌≤◌, inl, inr, List, length, get_or, set, refl, ap, ◌∙◌, arith, get_or-set_other, get_or-set_same, length-set}
use Rattle.std.proofs.lemmas.Bool.{cases_eq, cases_lt}
use Rattle.flow_core.specs.WinnerNodes.{AreBelowFrom, IsAbove, IsBelow, IsTree, WinsOver}
use Rattle.flow_core.proofs.NodeLemmas.{below_both, below_leaf, below_next, leaf_has_one, none_between}
use Rattle.flow_core.proofs.WinnerLemmas.{below_written, HasChanged, starts, stays}

-- The winner at the top wins over each flow with bytes.
pub top_wins : {leaves : ℕ} {bytes winners : List ℕ} {top height : ℕ} → IsTree leaves bytes winners top height → (flow : ℕ) → 0 < get_or bytes flow 0
    → WinsOver bytes (get_or winners top 0) flow
top_wins {top = top} tree flow waits = (tree.right top (omega arith) tree.within).wins flow (tree.busy flow waits) waits

-- no flow has bytes where it has none
pub none_waits_below : {leaves : ℕ} {bytes winners : List ℕ} {top height : ℕ} → IsTree leaves bytes winners top height → get_or bytes (get_or winners top 0) 0 ≡ 0 → (flow : ℕ)
    → get_or bytes flow 0 ≡ 0
none_waits_below {bytes = bytes} tree none flow =
    elim (cases_lt 0 (get_or bytes flow 0)) [
      | inl waits ↦ absurd (omega (arith, top_wins tree flow waits))
      | inr nothing ↦ omega arith
    ]

-- what stands at a leaf is its flow
leaf_holds : {leaves : ℕ} {bytes winners : List ℕ} {top height : ℕ} → IsTree leaves bytes winners top height → (flow : ℕ) → flow < leaves → get_or winners (leaves + flow) 0 ≡ flow
leaf_holds {leaves} tree flow within = leaf_has_one (tree.held (leaves + flow) (omega arith) (omega arith))

-- where another flow wins at the top, the flow's leaf is not the top
pub below_top : {leaves : ℕ} {bytes winners : List ℕ} {flow top height : ℕ} → IsTree leaves bytes winners top height → IsBelow leaves top flow → get_or winners top 0 ≢ flow
    → top < leaves + flow
below_top {leaves} {winners = winners} {flow = flow} {top = top} tree below another =
    elim (cases_eq top (leaves + flow)) [
      | inl same ↦ absurd (another (ap (λ (n : ℕ). get_or winners n 0) same ∙ leaf_holds tree flow below.within))
      | inr ne ↦ omega (arith, below_leaf below)
    ]

module _ {leaves : ℕ} {old bytes winners : List ℕ} {flow top height : ℕ} (tree : IsTree leaves old winners top height) (changed : HasChanged old bytes flow) (within : flow < leaves) where
  -- no other flow has bytes: the flow's leaf is the top
  pub alone : ((other : ℕ) → get_or old other 0 ≡ 0) → IsTree leaves bytes winners (leaves + flow) 0
  alone none =
      let only : (other : ℕ) → 0 < get_or bytes other 0 → other ≡ flow = λ other waits. elim (cases_eq other flow) [
        | inl same ↦ same
        | inr ne ↦ absurd (omega (arith, changed.others other ne, none other))
      ] in
      record {
        levels = tree.levels;
        doubled = tree.doubled;
        most = tree.most;
        counts = changed.size ∙ tree.counts;
        nodes = tree.nodes;
        some = omega arith;
        within = omega arith;
        above = record { flow = flow; within = within; meets = refl };
        held = tree.held;
        right = λ node from inner. record {
          below = tree.held node (omega arith) inner;
          wins = λ other below waits.
              let same = only other waits in
              let here : node ≡ leaves + flow = omega (arith, below_leaf below) in
              let own : get_or winners node 0 ≡ flow = ap (λ (n : ℕ). get_or winners n 0) here ∙ leaf_holds tree flow within in
              rw (own, same) (omega arith);
        };
        busy = λ other waits. rw (only other waits) (record { within = within; levels = 0; meets = refl });
      }

  -- a tree of one leaf stays as it is
  pub one_leaf : leaves + flow < 2 → IsTree leaves bytes winners top height
  one_leaf few =
      let here : top ≡ leaves + flow = omega (arith, tree.some, tree.within) in
      let below : IsBelow leaves top flow = rw here (record { within = within; levels = 0; meets = refl }) in
      stays tree changed below tree.nodes tree.held (rw (← here) at (starts tree changed below).right)

-- Some flows are below a node, and each node from there on, but one, holds a flow that wins over those of them below it.
pub record Leads (leaves : ℕ) (bytes winners : List ℕ) (Group : ℕ → Type 0) (node other : ℕ) : Type 0 where
  pub over : (flow : ℕ) → Group flow → IsBelow leaves node flow
  pub right : (at flow : ℕ) → node ≤ at → at < 2 * leaves → at ≢ other → Group flow → IsBelow leaves at flow → WinsOver bytes (get_or winners at 0) flow

-- The nodes over flows of both groups have no greater numbers than the two nodes.
pub record AreApart (leaves : ℕ) (Group Other : ℕ → Type 0) (node other : ℕ) : Type 0 where
  pub least : (at flow also : ℕ) → Group flow → Other also → IsBelow leaves at flow → IsBelow leaves at also → (at ≤ node) × (at ≤ other)

pub flipped : {leaves : ℕ} {Group Other : ℕ → Type 0} {node other : ℕ} → AreApart leaves Group Other node other → AreApart leaves Other Group other node
flipped apart = record { least = λ at also flow other group below too. let both = apart.least at flow also group other too below in (both.1, both.0) }

module _ {leaves : ℕ} {bytes winners : List ℕ} {Group Other : ℕ → Type 0} {node other : ℕ} (own : Leads leaves bytes winners Group node other)
    (apart : AreApart leaves Group Other node other) (less : other < node) where
  -- the node of the greater number rises by a level
  pub apart_on : AreApart leaves Group Other (node / 2) other
  apart_on = record {
    least = λ at flow also group too below both.
        let last = apart.least at flow also group too below both in
        (none_between (own.over flow group) below (omega (arith, last.1)), last.1);
  }

  module _ (best : ℕ) (member : Group best) (inner : node < length winners) where
    -- the node after it gets the winner of its group
    pub leads_on : ((flow : ℕ) → Group flow → WinsOver bytes best flow) → Leads leaves bytes (set winners (node / 2) best) Group (node / 2) other
    leads_on wins = record {
      over = λ flow group. below_next (own.over flow group);
      right = λ at flow from within ne group below. elim (cases_eq at (node / 2)) [
        | inl same ↦ rw (same, get_or-set_same winners (node / 2) best 0 (omega arith)) (wins flow group)
        | inr past ↦
            rw (get_or-set_other winners (node / 2) at best 0 past)
            (elim (cases_lt at node) [
              | inl lower ↦ absurd (omega (arith, none_between (own.over flow group) below lower))
              | inr most ↦ own.right at flow most within ne group below
            ])
      ];
    }

    -- the other group stays
    pub leads_still : Leads leaves bytes winners Other other node → Leads leaves bytes (set winners (node / 2) best) Other other (node / 2)
    leads_still others = record {
      over = others.over;
      right = λ at flow from within ne group below.
          rw (get_or-set_other winners (node / 2) at best 0 ne)
          (others.right at flow from within
          (λ same. let both = apart.least at best flow member group (rw (← same) at (own.over best member)) below in omega (arith, both.1)) group below);
    }

-- the flow that changes, and the others that have bytes
abbrev pub OneFlow : ℕ → ℕ → Type 0
OneFlow flow other = other ≡ flow

abbrev pub OtherFlows : List ℕ → ℕ → ℕ → Type 0
OtherFlows bytes flow other = (other ≢ flow) × (0 < get_or bytes other 0)

-- The top rises to a flow outside of it, which has come to a node on its way there.
pub record Rises (leaves : ℕ) (bytes winners : List ℕ) (flow most node top height : ℕ) : Type 0 where
  pub nodes : length winners ≡ 2 * leaves
  pub held : AreBelowFrom leaves 1 winners
  pub above : IsAbove leaves top height
  pub one_some : 1 ≤ node
  pub some : 1 ≤ top
  pub one_within : node < 2 * leaves
  pub within : top < 2 * leaves
  pub most_is : OtherFlows bytes flow most
  pub most_wins : (other : ℕ) → OtherFlows bytes flow other → WinsOver bytes most other
  pub one : Leads leaves bytes winners (OneFlow flow) node top
  pub others : Leads leaves bytes winners (OtherFlows bytes flow) top node
  pub apart : AreApart leaves (OneFlow flow) (OtherFlows bytes flow) node top

module _ {leaves : ℕ} {old bytes winners : List ℕ} {flow top height : ℕ} (tree : IsTree leaves old winners top height) (changed : HasChanged old bytes flow) (within : flow < leaves)
    (waits : 0 < get_or old (get_or winners top 0) 0) (outside : IsBelow leaves top flow → ⊥) where
  -- a flow with bytes is another one
  another : (other : ℕ) → 0 < get_or old other 0 → other ≢ flow
  another other busy same = outside (rw same at (tree.busy other busy))

  -- it has as many as before
  as_before : (other : ℕ) → 0 < get_or old other 0 → get_or bytes other 0 ≡ get_or old other 0
  as_before other busy = changed.others other (another other busy)

  busy_before : (other : ℕ) → OtherFlows bytes flow other → 0 < get_or old other 0
  busy_before other is = omega (arith, changed.others other is.0, is.1)

  pub rises_first : Rises leaves bytes winners flow (get_or winners top 0) (leaves + flow) top height
  rises_first =
      let most = get_or winners top 0 in
      let leaf : IsBelow leaves (leaves + flow) flow = record { within = within; levels = 0; meets = refl } in
      let wins_still : (a other : ℕ) → 0 < get_or old other 0 → WinsOver old a other → WinsOver bytes a other = λ a other busy over.
      omega (arith, over, as_before other busy, as_before a (omega (arith, over, busy))) in
      record {
        nodes = tree.nodes;
        held = tree.held;
        above = tree.above;
        one_some = omega arith;
        some = tree.some;
        one_within = omega arith;
        within = tree.within;
        most_is = (another most waits, omega (arith, as_before most waits, waits));
        most_wins = λ other is. wins_still most other (busy_before other is) (top_wins tree other (busy_before other is));
        one = record {
          over = λ other same. rw same leaf;
          right = λ at other from inner ne same below.
              let here : at ≡ leaves + flow = omega (arith, below_leaf below, same) in
              let own : get_or winners at 0 ≡ flow = ap (λ (n : ℕ). get_or winners n 0) here ∙ leaf_holds tree flow within in
              rw (own, same) (omega arith);
        };
        others = record {
          over = λ other is. tree.busy other (busy_before other is);
          right = λ at other from inner ne is below.
              let busy = busy_before other is in
              wins_still (get_or winners at 0) other busy ((tree.right at from inner).wins other below busy);
        };
        apart = record {
          least = λ at other also same is below both. (
            omega (arith, below_leaf below, same),
            elim (cases_lt top at) [
              | inl lower ↦
                  let down = rw same at below in
                  absurd (outside (below_both both (tree.busy also (busy_before also is)) lower (below_next down)))
              | inr done ↦ done
            ],
          );
        };
      }

module _ {leaves : ℕ} {bytes winners : List ℕ} {flow most node top height : ℕ} (rises : Rises leaves bytes winners flow most node top height) where
  -- the flow's node has the greater number
  pub rises_one : top < node → Rises leaves bytes (set winners (node / 2) flow) flow most (node / 2) top height
  rises_one less =
      let inner : node < length winners = omega (arith, rises.one_within, rises.nodes) in
      record {
        nodes = length-set winners (node / 2) flow ∙ rises.nodes;
        held = below_written leaves 1 winners (node / 2) flow (omega arith) rises.held (below_next (rises.one.over flow refl));
        above = rises.above;
        one_some = omega (arith, rises.some);
        some = rises.some;
        one_within = omega (arith, rises.one_within);
        within = rises.within;
        most_is = rises.most_is;
        most_wins = rises.most_wins;
        one = leads_on rises.one rises.apart less flow refl inner (λ other same. rw same (omega arith));
        others = leads_still rises.one rises.apart less flow refl inner rises.others;
        apart = apart_on rises.one rises.apart less;
      }

  -- the top has it
  pub rises_top : (more : ℕ) → IsAbove leaves (top / 2) more → node < top → Rises leaves bytes (set winners (top / 2) most) flow most node (top / 2) more
  rises_top more above less =
      let inner : top < length winners = omega (arith, rises.within, rises.nodes) in
      let apart = flipped rises.apart in
      record {
        nodes = length-set winners (top / 2) most ∙ rises.nodes;
        held = below_written leaves 1 winners (top / 2) most (omega arith) rises.held (below_next (rises.others.over most rises.most_is));
        above = above;
        one_some = rises.one_some;
        some = omega (arith, rises.one_some);
        one_within = rises.one_within;
        within = omega (arith, rises.within);
        most_is = rises.most_is;
        most_wins = rises.most_wins;
        one = leads_still rises.others apart less most rises.most_is inner rises.one;
        others = leads_on rises.others apart less most rises.most_is inner rises.most_wins;
        apart = flipped (apart_on rises.others apart less);
      }

  -- where both meet, who wins over the other wins over all
  pub rises_last : {old before : List ℕ} {first low : ℕ} → IsTree leaves old before first low → length bytes ≡ leaves → node ≡ top → (x : ℕ) → IsBelow leaves top x
      → WinsOver bytes x flow → WinsOver bytes x most → IsTree leaves bytes (set winners node x) top height
  rises_last tree counts meet x below over_flow over_most =
      let inner : top < length winners = omega (arith, rises.within, rises.nodes) in
      let held = below_written leaves 1 winners top x inner rises.held below in
      let one = rw meet at rises.one in
      let others = rw meet at rises.others in
      rw meet (record {
        levels = tree.levels;
        doubled = tree.doubled;
        most = tree.most;
        counts = counts;
        nodes = length-set winners top x ∙ rises.nodes;
        some = rises.some;
        within = rises.within;
        above = rises.above;
        held = held;
        right = λ at from within. record {
          below = held at (omega (arith, rises.some)) within;
          wins = λ other also waits. elim (cases_eq at top) [
            | inl same ↦ rw (same, get_or-set_same winners top x 0 inner) (elim (cases_eq other flow) [
              | inl is ↦ rw is over_flow
              | inr ne ↦ omega (arith, over_most, rises.most_wins other (ne, waits))
            ])
            | inr past ↦ rw (get_or-set_other winners top at x 0 past) (elim (cases_eq other flow) [
              | inl is ↦ one.right at other from within past is also
              | inr ne ↦ others.right at other from within past (ne, waits) also
            ])
          ];
        };
        busy = λ other waits. elim (cases_eq other flow) [
          | inl is ↦ one.over other is
          | inr ne ↦ others.over other (ne, waits)
        ];
      })
