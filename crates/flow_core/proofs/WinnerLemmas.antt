-- The winner among the flows below each node of a tree, and a change of one flow's bytes below its top.
use Rattle.std.proofs.Common.{◌≡◌, ◌≢◌, ℕ, ◌+◌, ◌-◌, ◌*◌, ◌/◌, ◌^◌, ◌<◌, ◌≤◌, inl, inr, List, length, min, get_or, set, refl, sym, ap, subst, ◌∙◌, arith, get_or-set_other, get_or-set_same, length-set}
use Rattle.std.proofs.Math.Nat.{pow-suc}
use Rattle.std.proofs.lemmas.Bool.{cases_eq, cases_lt}
use Rattle.flow_core.specs.WinnerNodes.{AreBelowFrom, AreWinnersFrom, IsBelow, IsTree, IsWinner, node_above, WinsOver}
use Rattle.flow_core.proofs.NodeLemmas.{below_both, below_child, below_leaf, below_next, leaf_has_one, levels_within, node_above-add, none_between}

-- a flow wins at its leaf
pub winner_at_leaf : (bytes : List ℕ) (leaves flow : ℕ) → flow < leaves → IsWinner bytes leaves (leaves + flow) flow
winner_at_leaf bytes leaves flow within = record {
  below = record { within = within; levels = 0; meets = refl };
  wins = λ other below waits. subst (λ (o : ℕ). WinsOver bytes flow o) (sym (leaf_has_one below)) (omega arith);
}

-- of the winners at two nodes below one, the one that wins over the other wins there
pub joins : (bytes : List ℕ) (leaves node left right a b : ℕ) → node < leaves → left / 2 ≡ node → right / 2 ≡ node → left ≢ right
    → IsWinner bytes leaves left a → IsWinner bytes leaves right b → WinsOver bytes a b → IsWinner bytes leaves node a
joins bytes leaves node left right a b inner left_is right_is differ own other over = record {
  below = rw left_is at (below_next own.below);
  wins = λ flow below waits.
      let child = below_child inner below in
      elim (cases_eq child.0 left) [
        | inl same ↦ own.wins flow (rw same at child.2) waits
        | inr ne ↦ let there : child.0 ≡ right = omega (arith, child.1) in omega (arith, over, other.wins flow (rw there at child.2) waits)
      ];
}

-- the winner is written
pub written : (leaves : ℕ) (bytes winners : List ℕ) (node x : ℕ) → node < length winners → AreWinnersFrom leaves (node + 1) bytes winners → IsWinner bytes leaves node x
    → AreWinnersFrom leaves node bytes (set winners node x)
written leaves bytes winners node x inner right winner other from within =
    elim (cases_eq other node) [
      | inl same ↦ rw (same, get_or-set_same winners node x 0 inner) winner
      | inr ne ↦ rw (get_or-set_other winners node other x 0 ne) (right other (omega arith) within)
    ]

-- a flow below the node is written
pub below_written : (leaves first : ℕ) (winners : List ℕ) (node x : ℕ) → node < length winners → AreBelowFrom leaves first winners → IsBelow leaves node x
    → AreBelowFrom leaves first (set winners node x)
below_written leaves first winners node x inner held below other from within =
    elim (cases_eq other node) [
      | inl same ↦ rw (same, get_or-set_same winners node x 0 inner) below
      | inr ne ↦ rw (get_or-set_other winners node other x 0 ne) (held other from within)
    ]

-- One flow's count has changed.
pub record HasChanged (before bytes : List ℕ) (flow : ℕ) : Type 0 where
  pub size : length bytes ≡ length before
  pub others : (other : ℕ) → other ≢ flow → get_or bytes other 0 ≡ get_or before other 0

-- it was written
abbrev pub count_written : (bytes : List ℕ) (flow count : ℕ) → HasChanged bytes (set bytes flow count) flow
count_written bytes flow count = record { size = length-set bytes flow count; others = λ other ne. get_or-set_other bytes flow other count 0 ne }

module _ (bytes : List ℕ) (flow count : ℕ) (within : flow < length bytes) where
  -- it is no less than before
  pub written_more : get_or bytes flow 0 ≤ count → get_or bytes flow 0 ≤ get_or (set bytes flow count) flow 0
  written_more more = rw (get_or-set_same bytes flow count 0 within) more

  pub written_less : count ≤ get_or bytes flow 0 → get_or (set bytes flow count) flow 0 ≤ get_or bytes flow 0
  written_less less = rw (get_or-set_same bytes flow count 0 within) less

  -- it wins over that of another flow, where the code says so
  pub wins_read : (other : ℕ) → get_or bytes other 0 + min 1 (flow - other) ≤ count → WinsOver (set bytes flow count) flow other
  wins_read other wins = elim (cases_eq other flow) [
    | inl same ↦ subst (λ (o : ℕ). WinsOver (set bytes flow count) flow o) (sym same) (omega arith)
    | inr ne ↦ rw (get_or-set_same bytes flow count 0 within, get_or-set_other bytes flow other count 0 ne) wins
  ]

  pub loses_read : (other : ℕ) → other ≢ flow → count < get_or bytes other 0 + min 1 (flow - other) → WinsOver (set bytes flow count) other flow
  loses_read other ne loses = rw (get_or-set_same bytes flow count 0 within, get_or-set_other bytes flow other count 0 ne) (omega arith)

-- A climb from the flow's leaf to the top has come to the node, with no more comparisons than levels: that node and all
-- of greater numbers hold their winners, and the others what they held before.
pub record Climbs (leaves : ℕ) (bytes before winners : List ℕ) (flow top node made : ℕ) : Type 0 where
  pub over : IsBelow leaves node flow
  pub above : top ≤ node
  pub nodes : length winners ≡ 2 * leaves
  pub held : AreBelowFrom leaves 1 winners
  pub right : AreWinnersFrom leaves node bytes winners
  pub rest : (other : ℕ) → other < node → get_or winners other 0 ≡ get_or before other 0
  pub within : node + made ≤ leaves + flow
  pub few : made ≤ over.levels

-- with so many levels left above, there are as many comparisons fewer than levels
pub few_by : {leaves : ℕ} {bytes before winners : List ℕ} {flow top node made : ℕ} → Climbs leaves bytes before winners flow top node made → (left levels : ℕ) → 1 ≤ node_above left node
    → leaves ≡ 2 ^ levels → made + left ≤ levels
few_by {leaves} {flow = flow} {node = node} climbs left levels some power =
    let top = node_above-add climbs.over.levels left (leaves + flow) ∙ ap (node_above left) climbs.over.meets in
    let twice = pow-suc 2 levels in
    let all = levels_within levels (climbs.over.levels + left) (leaves + flow) (omega (arith, climbs.over.within)) (omega (arith, top)) in
    omega (arith, climbs.few)

module _ {leaves : ℕ} {old bytes before : List ℕ} {flow top height : ℕ} (tree : IsTree leaves old before top height) (changed : HasChanged old bytes flow) where
  -- who won at a node still does, where its count is no less and it still wins over the flow
  kept : (node a : ℕ) → IsWinner old leaves node a → get_or old a 0 ≤ get_or bytes a 0 → (IsBelow leaves node flow → 0 < get_or bytes flow 0 → WinsOver bytes a flow)
      → IsWinner bytes leaves node a
  kept node a winner more over = record {
    below = winner.below;
    wins = λ other below waits. elim (cases_eq other flow) [
      | inl same ↦ subst (λ (o : ℕ). WinsOver bytes a o) (sym same) (over (rw same at below) (rw same at waits))
      | inr ne ↦
          let is = changed.others other ne in
          omega (arith, is, winner.wins other below (omega (arith, is)), more)
    ];
  }

  -- who won at a node that the flow isn't below still does
  kept_apart : (node : ℕ) → top ≤ node → node < 2 * leaves → (IsBelow leaves node flow → ⊥) → IsWinner bytes leaves node (get_or before node 0)
  kept_apart node from within apart =
      let a = get_or before node 0 in
      let held = tree.right node from within in
      let ne : a ≢ flow = λ same. apart (subst (λ (o : ℕ). IsBelow leaves node o) same held.below) in
      kept node a held (omega (arith, changed.others a ne)) (λ also waits. absurd (apart also))

  -- the top stays where the flow is below it
  pub stays : {winners : List ℕ} → IsBelow leaves top flow → length winners ≡ 2 * leaves → AreBelowFrom leaves 1 winners → AreWinnersFrom leaves top bytes winners
      → IsTree leaves bytes winners top height
  stays below nodes held right = record {
    levels = tree.levels;
    doubled = tree.doubled;
    most = tree.most;
    counts = changed.size ∙ tree.counts;
    nodes = nodes;
    some = tree.some;
    within = tree.within;
    above = tree.above;
    held = held;
    right = right;
    busy = λ other waits. elim (cases_eq other flow) [
      | inl same ↦ rw same below
      | inr ne ↦ tree.busy other (omega (arith, changed.others other ne))
    ];
  }

  module _ (below : IsBelow leaves top flow) where
    -- a climb starts at the leaf
    pub starts : Climbs leaves bytes before before flow top (leaves + flow) 0
    starts =
        let leaf : IsBelow leaves (leaves + flow) flow = record { within = below.within; levels = 0; meets = refl } in
        record {
          over = leaf;
          above = below_leaf below;
          nodes = tree.nodes;
          held = tree.held;
          right = λ node from within. elim (cases_eq node (leaves + flow)) [
            | inl same ↦
                let own = leaf_has_one (tree.held (leaves + flow) (omega (arith, below.within)) (omega (arith, below.within))) in
                rw (same, own) (winner_at_leaf bytes leaves flow below.within)
            | inr ne ↦ kept_apart node (omega (arith, below_leaf below)) within (λ also. omega (arith, below_leaf also))
          ];
          rest = λ other less. refl;
          within = omega arith;
          few = omega arith;
        }

    module _ {winners : List ℕ} {node made : ℕ} (climbs : Climbs leaves bytes before winners flow top node made) where
      -- at the top the climb is done
      pub ends : node ≤ top → IsTree leaves bytes winners top height
      ends done =
          let there : node ≡ top = omega (arith, climbs.above) in
          stays below climbs.nodes climbs.held (rw there at climbs.right)

      module _ (some : top < node) where
        next_above : top ≤ node / 2
        next_above = none_between climbs.over below some

        next_within : node / 2 < 2 * leaves
        next_within = omega (arith, climbs.within, below.within)

        -- the nodes past the next one hold their winners
        pub right_past : AreWinnersFrom leaves (node / 2 + 1) bytes winners
        right_past other from within =
            elim (cases_lt other node) [
              | inl less ↦
                  rw (climbs.rest other less) (kept_apart other (omega (arith, next_above)) within (λ also. omega (arith, none_between climbs.over also less)))
              | inr most ↦ climbs.right other most within
            ]

        -- the next node gets its winner, with one comparison more or none
        pub climbs_next : (x more : ℕ) → IsWinner bytes leaves (node / 2) x → more ≤ made + 1 → Climbs leaves bytes before (set winners (node / 2) x) flow top (node / 2) more
        climbs_next x more winner few =
            let inner : node / 2 < length winners = omega (arith, next_within, climbs.nodes) in
            record {
              over = below_next climbs.over;
              above = next_above;
              nodes = length-set winners (node / 2) x ∙ climbs.nodes;
              held = below_written leaves 1 winners (node / 2) x inner climbs.held winner.below;
              right = written leaves bytes winners (node / 2) x inner right_past winner;
              rest = λ other less. get_or-set_other winners (node / 2) other x 0 (omega arith) ∙ climbs.rest other (omega arith);
              within = omega (arith, climbs.within, tree.some);
              few = omega (arith, climbs.few);
            }

        -- it holds its winner already
        climbs_past : IsWinner bytes leaves (node / 2) (get_or winners (node / 2) 0) → Climbs leaves bytes before winners flow top (node / 2) made
        climbs_past winner = record {
          over = below_next climbs.over;
          above = next_above;
          nodes = climbs.nodes;
          held = climbs.held;
          right = λ other from within. elim (cases_eq other (node / 2)) [
            | inl same ↦ rw same winner
            | inr ne ↦ right_past other (omega arith) within
          ];
          rest = λ other less. climbs.rest other (omega arith);
          within = omega (arith, climbs.within, tree.some);
          few = omega (arith, climbs.few);
        }

        -- what the next node holds it held before, rightly
        next_was : IsWinner old leaves (node / 2) (get_or winners (node / 2) 0)
        next_was = rw (climbs.rest (node / 2) (omega (arith, tree.some))) (tree.right (node / 2) next_above next_within)

      -- no node above changes, where each one's winner still wins
      stops : ((other : ℕ) → other < node → IsWinner old leaves other (get_or before other 0) → IsWinner bytes leaves other (get_or before other 0)) → IsTree leaves bytes winners top height
      stops still =
          stays below climbs.nodes climbs.held (λ other from within.
          elim (cases_lt other node) [
            | inl less ↦ rw (climbs.rest other less) (still other less (tree.right other from within))
            | inr most ↦ climbs.right other most within
          ])

      -- the flow that fell didn't win at the next node: no node above changes
      pub stops_fallen : 0 < get_or old flow 0 → get_or bytes flow 0 ≤ get_or old flow 0 → top < node → get_or winners (node / 2) 0 ≢ flow → IsTree leaves bytes winners top height
      stops_fallen waited less some ne =
          let x = get_or winners (node / 2) 0 in
          let next = next_was some in
          let over = next.wins flow (below_next climbs.over) waited in
          stops (λ other lower held.
          let a = get_or before other 0 in
          let differs : a ≢ flow = λ same.
          let won = subst (λ (o : ℕ). IsWinner old leaves other o) same held in
          ne (omega (arith, won.wins x (below_both climbs.over won.below lower next.below) (omega (arith, over)), over)) in
          kept other a held (omega (arith, changed.others a differs)) (λ also waits. omega (arith, held.wins flow also waited, changed.others a differs, less)))

    module _ (more : get_or old flow 0 ≤ get_or bytes flow 0) where
      -- no count fell
      no_less : (other : ℕ) → get_or old other 0 ≤ get_or bytes other 0
      no_less other = elim (cases_eq other flow) [ inl same ↦ rw same more | inr ne ↦ omega (arith, changed.others other ne) ]

      -- the flow that grew wins at a node over it, where it wins over who won there
      grown_wins : (node a : ℕ) → IsBelow leaves node flow → IsWinner old leaves node a → WinsOver bytes flow a → IsWinner bytes leaves node flow
      grown_wins node a over winner won = record {
        below = over;
        wins = λ other below waits. elim (cases_eq other flow) [
          | inl same ↦ rw same (omega arith)
          | inr ne ↦
              let is = changed.others other ne in
              omega (arith, is, winner.wins other below (omega (arith, is)), no_less a, won)
        ];
      }

      -- where it wins over who won at the top, it wins at each node over it
      pub wins_above : WinsOver bytes flow (get_or before top 0) → (node : ℕ) → IsBelow leaves node flow → IsWinner bytes leaves node flow
      wins_above won node over =
          let first = tree.right top (omega arith) tree.within in
          record {
            below = over;
            wins = λ other below waits. elim (cases_eq other flow) [
              | inl same ↦ rw same (omega arith)
              | inr ne ↦
                  let is = changed.others other ne in
                  let waited : 0 < get_or old other 0 = omega (arith, is) in
                  omega (arith, is, first.wins other (tree.busy other waited) waited, no_less (get_or before top 0), won)
            ];
          }

      -- the flow that grew won at the top already: no node changes
      pub top_grown : 0 < get_or old flow 0 → get_or before top 0 ≡ flow → IsTree leaves bytes before top height
      top_grown waited won =
          let first = rw won at (tree.right top (omega arith) tree.within) in
          stays below tree.nodes tree.held (λ node from within.
          let a = get_or before node 0 in
          let held = tree.right node from within in
          kept node a held (no_less a) (λ also waits.
          let over = held.wins flow also waited in
          let waited_too : 0 < get_or old a 0 = omega (arith, over) in
          let same : a ≡ flow = omega (arith, over, first.wins a (tree.busy a waited_too) waited_too) in
          subst (λ (o : ℕ). WinsOver bytes o flow) (sym same) (omega arith)))

      module _ {winners : List ℕ} {node made : ℕ} (climbs : Climbs leaves bytes before winners flow top node made) (some : top < node) where
        -- it wins over who won at the next node, and wins there
        pub climbs_grown : (x : ℕ) → WinsOver bytes flow (get_or winners (node / 2) 0) → x ≤ made + 1 → Climbs leaves bytes before (set winners (node / 2) flow) flow top (node / 2) x
        climbs_grown x won few =
            climbs_next climbs some flow x (grown_wins (node / 2) (get_or winners (node / 2) 0) (below_next climbs.over) (next_was climbs some) won) few

        -- it wins over who won at the top, and so at the next node
        pub climbs_won : WinsOver bytes flow (get_or before top 0) → Climbs leaves bytes before (set winners (node / 2) flow) flow top (node / 2) 0
        climbs_won won = climbs_next climbs some flow 0 (wins_above won (node / 2) (below_next climbs.over)) (omega arith)

        -- it won there already
        pub climbs_still : get_or winners (node / 2) 0 ≡ flow → Climbs leaves bytes before winners flow top (node / 2) made
        climbs_still same =
            climbs_past climbs some (rw same (grown_wins (node / 2) flow (below_next climbs.over) (rw same at (next_was climbs some)) (omega arith)))

        -- another flow still wins there: no node above changes
        pub stops_grown : (x : ℕ) → get_or winners (node / 2) 0 ≡ x → x ≢ flow → WinsOver bytes x flow → IsTree leaves bytes winners top height
        stops_grown x is ne won = stops climbs (λ other less held.
            let a = get_or before other 0 in
            let next = rw is at (next_was climbs some) in
            kept other a held (no_less a) (λ also waits.
            let over = held.wins x (below_both climbs.over also less next.below) (omega (arith, won, waits, changed.others x ne)) in
            elim (cases_eq a flow) [
              | inl same ↦ subst (λ (o : ℕ). WinsOver bytes o flow) (sym same) (omega arith)
              | inr differs ↦ omega (arith, over, won, changed.others a differs, changed.others x ne)
            ]))
