use Rattle.std.proofs.Common.{◌≡◌, length, set, ap, subst, sym, ◌∙◌, arith}
use Rattle.std.proofs.lemmas.List.{set-get_or}
use Rattle.flow_core.specs.WinnerNodes.{IsTree}
use Rattle.flow_core.proofs.NodeLemmas.{below_shift, height_within, shift_below}
use Rattle.flow_core.proofs.TopLemmas.{alone, none_waits_below}
use Rattle.flow_core.proofs.WinnerLemmas.{count_written}
use Rattle.flow_core.proofs.winner_tree.raise_from_none.Goals as goal

pub overflow_shr-leaf : goal.overflow_shr-leaf
overflow_shr-leaf c =
    let tree = c.requires.tree in
    omega (arith, tree.most, height_within tree.levels tree.doubled tree.some tree.above)

pub rise-requires-clause-outside : goal.rise-requires-clause-outside
rise-requires-clause-outside c =
    let tree = c.requires.tree in
    λ below. c.if-leaf-top.true (shift_below tree.levels tree.doubled tree.some tree.above below)

pub returns-then-wins_over-clause-tree : goal.returns-then-wins_over-clause-tree
returns-then-wins_over-clause-tree c =
    let tree = c.requires.tree in
    rw c.of_leaf.ensures
    (alone tree (count_written c.args.bytes.now c.args.flow c.args.own) c.requires.flow (none_waits_below tree c.if-most_bytes-eq0.true))

pub returns-else-wins_over-clause-tree : goal.returns-else-wins_over-clause-tree
returns-else-wins_over-clause-tree c =
    let bytes = c.args.bytes.now in
    let flow = c.args.flow in
    let nothing : c.args.own ≡ 0 = grind (arith, c.if-most_bytes-eq0.true, c.margin_over.ensures, c.wins_over.ensures.wins, c.if-wins_over.false) in
    let same : set bytes flow c.args.own ≡ bytes = ap (λ own. set bytes flow own) (nothing ∙ sym c.requires.none) ∙ set-get_or bytes flow 0 in
    subst (λ bs. IsTree (length bytes) bs c.args.winners.now c.args.top.now.node c.args.top.now.height) (sym same) c.requires.tree

pub raise_below_top-requires-clause-below : goal.raise_below_top-requires-clause-below
raise_below_top-requires-clause-below c = below_shift c.args.top.now.height c.requires.flow c.if-leaf-top.false
