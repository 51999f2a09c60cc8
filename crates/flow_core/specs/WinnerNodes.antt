-- The nodes of a tree over the flows. Node 1 is the root, and a node stands over the node of twice its number and the
-- one after. In a tree of so many leaves the leaf of a flow is the node of that number and the flow's added.
use Rattle.std.specs.Prelude.{◌≡◌, ℕ, zero, suc, ◌+◌, ◌-◌, ◌*◌, ◌/◌, ◌%◌, ◌^◌, ◌<◌, ◌≤◌, List, length, get_or, min}

-- the node so many levels above a node
abbrev pub node_above : ℕ → ℕ → ℕ
node_above zero node = node
node_above (suc levels) node = node_above levels (node / 2)

-- the other node below the same one
abbrev pub beside : ℕ → ℕ
beside node = node + 1 - 2 * (node % 2)

-- The flow's leaf is the node or stands below it.
pub record IsBelow (leaves node flow : ℕ) : Type 0 where
  pub within : flow < leaves
  pub levels : ℕ
  pub meets : node_above levels (leaves + flow) ≡ node

-- The node is so many levels above a leaf.
pub record IsAbove (leaves node height : ℕ) : Type 0 where
  pub flow : ℕ
  pub within : flow < leaves
  pub meets : node_above height (leaves + flow) ≡ node

-- The first flow has more bytes than the other one, or as many and no greater number: where its number is greater, it
-- needs one byte more.
abbrev pub WinsOver : List ℕ → ℕ → ℕ → Type 0
WinsOver bytes winner other = get_or bytes other 0 + min 1 (winner - other) ≤ get_or bytes winner 0

-- The flow is below the node, and wins over each flow there that has bytes.
pub record IsWinner (bytes : List ℕ) (leaves node winner : ℕ) : Type 0 where
  pub below : IsBelow leaves node winner
  pub wins : (other : ℕ) → IsBelow leaves node other → 0 < get_or bytes other 0 → WinsOver bytes winner other

-- Each node from that one on holds a flow that is below it.
abbrev pub AreBelowFrom : ℕ → ℕ → List ℕ → Type 0
AreBelowFrom leaves first winners =
    (node : ℕ) → first ≤ node → node < 2 * leaves → IsBelow leaves node (get_or winners node 0)

-- Each node from that one on holds its winner.
abbrev pub AreWinnersFrom : ℕ → ℕ → List ℕ → List ℕ → Type 0
AreWinnersFrom leaves first bytes winners =
    (node : ℕ) → first ≤ node → node < 2 * leaves → IsWinner bytes leaves node (get_or winners node 0)

-- The tree has a leaf for each count. The flows with bytes are below the top, which is so many levels above a leaf. It
-- and the nodes below it hold their winners, and each other node holds some flow below it.
pub record IsTree (leaves : ℕ) (bytes winners : List ℕ) (top height : ℕ) : Type 0 where
  pub levels : ℕ
  pub doubled : leaves ≡ 2 ^ levels
  pub most : levels ≤ 16
  pub counts : length bytes ≡ leaves
  pub nodes : length winners ≡ 2 * leaves
  pub some : 1 ≤ top
  pub within : top < 2 * leaves
  pub above : IsAbove leaves top height
  pub held : AreBelowFrom leaves 1 winners
  pub right : AreWinnersFrom leaves top bytes winners
  pub busy : (flow : ℕ) → 0 < get_or bytes flow 0 → IsBelow leaves top flow
