-- Nodes and the flows below them.
use Rattle.std.proofs.Common.{◌≡◌, ℕ, zero, suc, ◌+◌, ◌-◌, ◌*◌, ◌/◌, ◌%◌, ◌^◌, ◌<◌, ◌≤◌, min, inl, inr, refl, sym, ap, ◌∙◌, zero-add, arith}
use Rattle.std.proofs.Math.Nat.{suc-add, pow-suc}
use Rattle.std.proofs.Math.Pow.{pow_mono}
use Rattle.std.proofs.lemmas.Bool.{cases_lt}
use Rattle.std.proofs.lemmas.Nat.{one_shl, shr-shr}
use Rattle.flow_core.specs.WinnerNodes.{node_above, beside, IsAbove, IsBelow}
use Rattle.flow_core.specs.Winners.{IsLevels}

-- a climb in two parts
pub node_above-add : (h m node : ℕ) → node_above (h + m) node ≡ node_above m (node_above h node)
node_above-add zero m node = ap (λ (n : ℕ). node_above n node) (zero-add m)
node_above-add (suc h) m node = ap (λ (n : ℕ). node_above n node) (suc-add h m) ∙ node_above-add h m (node / 2)

pub above_next : (h node : ℕ) → node_above (suc h) node ≡ node_above h node / 2
above_next zero node = refl
above_next (suc h) node = above_next h (node / 2)

-- a node above has no greater number
pub node_above-le : (h node : ℕ) → node_above h node ≤ node
node_above-le zero node = omega arith
node_above-le (suc h) node = omega (arith, node_above-le h (node / 2))

-- no more levels are climbed than a tree has whose nodes are fewer than twice so many leaves
pub levels_within : (levels h node : ℕ) → node < 2 ^ suc levels → 1 ≤ node_above h node → h ≤ levels
levels_within levels zero node few some = omega arith
levels_within zero (suc h) node few some = absurd (omega (arith, node_above-le h (node / 2)))
levels_within (suc levels) (suc h) node few some =
    let twice = rw (pow-suc 2 (suc levels)) at few in
    let rest = levels_within levels h (node / 2) (omega arith) some in
    omega arith

-- a shift by so many levels gives the node above
pub shift_above : (h node : ℕ) → node / 2 ^ h ≡ node_above h node
shift_above zero node = omega arith
shift_above (suc h) node =
    let one : suc h ≡ 1 + h = omega arith in
    ap (λ (k : ℕ). node / 2 ^ k) one ∙ sym (shr-shr node 1 h) ∙ shift_above h (node / 2)

-- from two nodes of one level the climbs to one node are as long
same_level : (h j levels a b : ℕ) → 2 ^ levels ≤ a → a < 2 ^ suc levels → 2 ^ levels ≤ b → b < 2 ^ suc levels → 1 ≤ node_above h a → node_above h a ≡ node_above j b → h ≡ j
same_level zero zero levels a b a_least a_most b_least b_most some meets = refl
same_level zero (suc j) levels a b a_least a_most b_least b_most some meets =
    let twice = pow-suc 2 levels in absurd (omega (arith, node_above-le j (b / 2)))
same_level (suc h) zero levels a b a_least a_most b_least b_most some meets =
    let twice = pow-suc 2 levels in absurd (omega (arith, node_above-le h (a / 2)))
same_level (suc h) (suc j) zero a b a_least a_most b_least b_most some meets = absurd (omega (arith, node_above-le h (a / 2)))
same_level (suc h) (suc j) (suc levels) a b a_least a_most b_least b_most some meets =
    let once = pow-suc 2 levels in
    let twice = pow-suc 2 (suc levels) in
    ap suc (same_level h j levels (a / 2) (b / 2) (omega arith) (omega arith) (omega arith) (omega arith) some meets)

-- of two nodes over one, that of the lesser number is the next one after the other or above it
higher : (h j node : ℕ) → node_above j node < node_above h node → (m : ℕ) × (node_above m (node_above h node / 2) ≡ node_above j node)
higher zero zero node less = absurd (omega arith)
higher zero (suc j) node less = (j, refl)
higher (suc h) zero node less = absurd (omega (arith, node_above-le h (node / 2)))
higher (suc h) (suc j) node less = higher h j (node / 2) less

-- the root is over each node
to_root : (most node : ℕ) → node ≤ most → 1 ≤ node → (h : ℕ) × (node_above h node ≡ 1)
to_root zero node few some = absurd (omega arith)
to_root (suc most) node few some =
    elim (cases_lt node 2) [
      | inl one ↦ (0, omega arith)
      | inr more ↦ let up = to_root most (node / 2) (omega arith) (omega arith) in (suc up.0, up.1)
    ]

module _ {leaves flow : ℕ} where
  pub below_root : flow < leaves → IsBelow leaves 1 flow
  below_root within = let up = to_root (leaves + flow) (leaves + flow) (omega arith) (omega arith) in record { within = within; levels = up.0; meets = up.1 }

  -- a flow below a node is below the one above it
  abbrev pub below_next : {node : ℕ} → IsBelow leaves node flow → IsBelow leaves (node / 2) flow
  below_next below = record {
    within = below.within;
    levels = suc below.levels;
    meets = above_next below.levels (leaves + flow) ∙ ap (λ (n : ℕ). n / 2) below.meets;
  }

  -- a flow below an inner node is below one of the two nodes under it
  pub below_child : {node : ℕ} → node < leaves → IsBelow leaves node flow → (child : ℕ) × (child / 2 ≡ node) × IsBelow leaves child flow
  below_child {node} inner below = by_level below.levels below.meets
    where
      by_level : (h : ℕ) → node_above h (leaves + flow) ≡ node → (child : ℕ) × (child / 2 ≡ node) × IsBelow leaves child flow
      by_level zero meets = absurd (omega arith)
      by_level (suc h) meets =
          (node_above h (leaves + flow), sym (above_next h (leaves + flow)) ∙ meets, record { within = below.within; levels = h; meets = refl })

  -- a leaf has no other flow
  pub leaf_has_one : {other : ℕ} → IsBelow leaves (leaves + flow) other → other ≡ flow
  leaf_has_one {other} below = by_level below.levels below.meets
    where
      by_level : (h : ℕ) → node_above h (leaves + other) ≡ leaves + flow → other ≡ flow
      by_level zero meets = omega arith
      by_level (suc h) meets = absurd (omega (arith, node_above-le h ((leaves + other) / 2), below.within))

  module _ {node above : ℕ} (below : IsBelow leaves node flow) (also : IsBelow leaves above flow) (less : above < node) where
    up : (m : ℕ) × (node_above m (node / 2) ≡ above)
    up =
        let found = higher below.levels also.levels (leaves + flow) (omega (arith, below.meets, also.meets, less)) in
        (found.0, ap (λ (n : ℕ). node_above found.0 (n / 2)) (sym below.meets) ∙ found.1 ∙ also.meets)

    -- of two nodes over the flow, what is below the one after the greater is below the lesser
    pub below_both : {other : ℕ} → IsBelow leaves (node / 2) other → IsBelow leaves above other
    below_both {other} next = record {
      within = next.within;
      levels = next.levels + up.0;
      meets = node_above-add next.levels up.0 (leaves + other) ∙ ap (node_above up.0) next.meets ∙ up.1;
    }

    -- no node is between the two
    pub none_between : above ≤ node / 2
    none_between = omega (arith, node_above-le up.0 (node / 2), up.1)

-- a flow below a node is not below the other one under the same node
pub not_beside : {leaves flow node : ℕ} → 2 ≤ node → IsBelow leaves node flow → IsBelow leaves (beside node) flow → ⊥
not_beside {leaves} {flow} {node} some below also =
    elim (cases_lt node (beside node)) [
      | inl less ↦ omega (arith, none_between also below less)
      | inr most ↦ omega (arith, none_between below also (omega arith))
    ]

-- where the node so many levels above one is less than that above another one, so is the one
node_above-less : (h a b : ℕ) → node_above h a < node_above h b → a < b
node_above-less zero a b less = less
node_above-less (suc h) a b less = let half = node_above-less h (a / 2) (b / 2) less in omega arith

-- of two flows below the two nodes under one, that below the left node has the lesser number
pub margin_beside : {leaves node a b : ℕ} (levels : ℕ) → leaves ≡ 2 ^ levels → 2 ≤ node → IsBelow leaves node a → IsBelow leaves (beside node) b → min 1 (a - b) ≡ node % 2
margin_beside {leaves} {node} {a} {b} levels doubled some own other =
    let twice = pow-suc 2 levels in
    let one = below_next own in
    let also = below_next other in
    let same =
    same_level (suc own.levels) (suc other.levels) levels (leaves + a) (leaves + b) (omega arith) (omega (arith, own.within)) (omega arith) (omega (arith, other.within))
    (omega (arith, one.meets)) (omega (arith, one.meets, also.meets)) in
    let height : other.levels ≡ own.levels = omega (arith, same) in
    let meets : node_above own.levels (leaves + b) ≡ beside node = ap (λ (h : ℕ). node_above h (leaves + b)) (sym height) ∙ other.meets in
    elim (cases_lt (beside node) node) [
      | inl left ↦ let less = node_above-less own.levels (leaves + b) (leaves + a) (omega (arith, meets, own.meets)) in omega arith
      | inr right ↦ let less = node_above-less own.levels (leaves + a) (leaves + b) (omega (arith, meets, own.meets)) in omega arith
    ]

-- a node over a flow has no greater number than the flow's leaf
pub below_leaf : {leaves node flow : ℕ} → IsBelow leaves node flow → node ≤ leaves + flow
below_leaf {leaves} {node} {flow} below = omega (arith, node_above-le below.levels (leaves + flow), below.meets)

module _ {leaves node height : ℕ} (levels : ℕ) (doubled : leaves ≡ 2 ^ levels) (some : 1 ≤ node) (above : IsAbove leaves node height) where
  -- a node is no more levels above a leaf than the tree has
  pub height_within : height ≤ levels
  height_within =
      let twice = pow-suc 2 levels in
      levels_within levels height (leaves + above.flow) (omega (arith, above.within)) (omega (arith, above.meets))

  -- the leaf of a flow below the node, shifted by the node's levels, is the node
  pub shift_below : {flow : ℕ} → IsBelow leaves node flow → (leaves + flow) / 2 ^ height ≡ node
  shift_below {flow} below =
      let twice = pow-suc 2 levels in
      let same =
      same_level height below.levels levels (leaves + above.flow) (leaves + flow) (omega arith) (omega (arith, above.within)) (omega arith) (omega (arith, below.within))
      (omega (arith, above.meets)) (above.meets ∙ sym below.meets) in
      shift_above height (leaves + flow) ∙ ap (λ (h : ℕ). node_above h (leaves + flow)) same ∙ below.meets

-- and a flow whose leaf is shifted to it is below it
abbrev pub below_shift : {leaves node flow : ℕ} (height : ℕ) → flow < leaves → (leaves + flow) / 2 ^ height ≡ node → IsBelow leaves node flow
below_shift {leaves} {node} {flow} height within meets = record { within = within; levels = height; meets = sym (shift_above height (leaves + flow)) ∙ meets }

-- the node after one is a level more above a leaf
pub above_on : {leaves node height : ℕ} → IsAbove leaves node height → IsAbove leaves (node / 2) (height + 1)
above_on {leaves} {node} {height} above =
    let more : height + 1 ≡ suc height = omega arith in
    record {
      flow = above.flow;
      within = above.within;
      meets = ap (λ (h : ℕ). node_above h (leaves + above.flow)) more ∙ above_next height (leaves + above.flow) ∙ ap (λ (n : ℕ). n / 2) above.meets;
    }

-- half of those leaves were too few
pub levels_least : (flows levels : ℕ) → flows ≤ 2 ^ levels → 2 ^ levels < 2 * flows → IsLevels flows levels
levels_least flows levels enough few = record {
  enough = enough;
  least = λ fewer other. elim (cases_lt fewer levels) [
    | inl less ↦
        let wide : 2 ^ suc fewer ≤ 2 ^ levels = pow_mono {i = suc fewer} {j = levels} (omega arith) in
        let twice = rw (pow-suc 2 fewer) at wide in
        absurd (omega arith)
    | inr most ↦ most
  ];
}

-- a shift by so few gives a power of two
pub shifted : (levels : ℕ) → levels ≤ 16 → 1 * 2 ^ levels % 18446744073709551616 ≡ 2 ^ levels
shifted levels few = one_shl levels 64 (omega arith)

pub most_leaves : (levels : ℕ) → levels ≤ 16 → 2 ^ levels ≤ 65536
most_leaves levels few = pow_mono {i = levels} {j = 16} few
