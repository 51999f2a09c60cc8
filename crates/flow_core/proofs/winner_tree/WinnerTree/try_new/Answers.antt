use Rattle.std.proofs.Common.{◌≡◌, ℕ, ◌*◌, ◌^◌, ◌%◌, ◌<◌, ◌≤◌, ◌∙◌, List, ap, get_or, replicate, take, vec_len, rules, arith}
use Rattle.std.proofs.lemmas.List.{take-replicate}
use Rattle.std.proofs.lemmas.List.Elements.{All-replicate}
use Rattle.flow_core.specs.Winners.{ByteCounts}
use Rattle.flow_core.proofs.NodeLemmas.{most_leaves, shifted}
use Rattle.flow_core.proofs.ReadLemmas.{replicate-at}
use Rattle.flow_core.proofs.SeenLemmas.{first_tree}
use Rattle.flow_core.proofs.winner_tree.WinnerTree.try_new.Goals.{After-levels_over-levels, After-of_leaf}
use Rattle.flow_core.proofs.winner_tree.WinnerTree.try_new.Goals as goal

small : (c : After-levels_over-levels) → c.levels_over-levels.result ≤ 16
small c = c.levels_over-levels.ensures.least 16 (omega arith)

pub overflow_shl-leaves : goal.overflow_shl-leaves
overflow_shl-leaves c = omega (arith, small (goal.at.overflow_shl-leaves c).After-levels_over-levels)

pub first_winners-requires : goal.first_winners-requires
first_winners-requires c =
    let few = small (goal.at.first_winners-requires c).After-levels_over-levels in
    rw (shifted c.levels_over-levels.result few) (most_leaves c.levels_over-levels.result few)

-- the counts of the leaves
none : (c : After-of_leaf) → c.in_ok-vec.field-0.items ≡ replicate {A = ℕ} (2 ^ c.levels_over-levels.result) 0
none c =
    let items : c.in_ok-vec.field-0.items ≡ replicate {A = ℕ} (1 * 2 ^ c.levels_over-levels.result % 18446744073709551616) 0 = search rules in
    rw (shifted c.levels_over-levels.result (c.levels_over-levels.ensures.least 16 (omega arith))) at items

pub invariant_of-result : goal.invariant_of-result
invariant_of-result c =
    let levels = c.levels_over-levels.result in
    let few = small (goal.at.invariant_of-result c).After-levels_over-levels in
    let power = shifted levels few in
    let len : vec_len c.in_ok-vec.field-0 ≡ 1 * 2 ^ levels % 18446744073709551616 = search rules in
    let leaves = len ∙ power in
    let items = none c in
    let made = c.in_ok-first_winners.ensures {u = tt} in
    let zero : (flow : ℕ) → get_or c.in_ok-vec.field-0.items flow 0 ≡ 0 = λ flow. rw items (replicate-at (2 ^ levels) flow 0) in
    record {
      least = omega arith;
      most = omega arith;
      levels = c.levels_over-levels.ensures;
      leaves = leaves;
      small = rw items (All-replicate (λ (b : ℕ). b < 2 ^ 63) (2 ^ levels) 0 (omega arith));
      unused = λ flow past. zero flow;
      tree =
          rw (leaves, c.of_leaf.ensures, power)
          (first_tree levels c.in_ok-vec.field-0.items c.in_ok-first_winners.field-0.items few (omega (arith, leaves, c.in_ok-vec.field-0.ok.0))
          (omega (arith, rw power at made.nodes, c.in_ok-first_winners.field-0.ok.0)) (rw power at made.below) zero);
    }

pub returns : goal.returns
returns c =
    let view : List ℕ → ByteCounts = λ bytes. record { bytes = bytes; comparisons = 0 } in
    let seen : take c.args.flows c.in_ok-vec.field-0.items ≡ replicate {A = ℕ} c.args.flows 0 =
    ap (λ (bytes : List ℕ). take c.args.flows bytes) (none c) ∙ take-replicate c.args.flows (2 ^ c.levels_over-levels.result) 0 (omega (arith, c.levels_over-levels.ensures.enough)) in
    ap view seen
