use Rattle.std.proofs.Common.{◌≡◌, ◌≢◌, ℕ, ◌+◌, ◌-◌, ◌/◌, ◌%◌, ◌<◌, ◌≤◌, min, get_or, length, set, arith, subst, sym, get_or-set_other, get_or-set_same}
use Rattle.flow_core.specs.WinnerNodes.{IsBelow, IsWinner}
use Rattle.flow_core.proofs.NodeLemmas.{margin_beside, not_beside}
use Rattle.flow_core.proofs.WinnerLemmas.{climbs_next, count_written, ends, few_by, joins, right_past, starts, stops_fallen, winner_at_leaf, written_less}
use Rattle.flow_core.proofs.winner_tree.lower_from.Goals as goal
use Rattle.flow_core.proofs.winner_tree.lower_from.Goals.{then-not-wins_over, else-not-wins_over}

pub loop-node-init : goal.loop-node-init
loop-node-init c =
    let bytes = c.args.bytes.now in
    let tree = c.requires.tree in
    rw c.requires.leaf (record {
      climbs = starts tree (count_written bytes c.args.flow c.args.own) (tree.busy c.args.flow c.requires.waits);
      carried = sym (get_or-set_same bytes c.args.flow c.args.own 0 c.requires.flow);
      own = winner_at_leaf (set bytes c.args.flow c.args.own) (length bytes) c.args.flow c.requires.flow;
    })

pub loop-node-preserved : goal.loop-node-preserved
loop-node-preserved c =
    let leaves = length c.args.bytes.now in
    let bytes = set c.args.bytes.now c.args.flow c.args.own in
    let tree = c.requires.tree in
    let changed = count_written c.args.bytes.now c.args.flow c.args.own in
    let below = tree.busy c.args.flow c.requires.waits in
    let node = c.loop-node.node in
    let loop = c.loop-node.invariant in
    let some = c.loop-node-test.true in
    let beside = c.node_beside-beside.result in
    let is = c.node_beside-beside.ensures in
    let x = get_or c.loop-node.winners beside 0 in
    let inner : node / 2 < leaves = omega (arith, loop.climbs.within, below.within) in
    let other = right_past tree changed below loop.climbs some beside (omega (arith, is, tree.some)) (omega (arith, is, loop.climbs.within, below.within)) in
    let ne : x ≢ c.args.flow = λ same. not_beside (omega (arith, tree.some)) loop.climbs.over (rw (same, is) at other.below) in
    let count : get_or bytes x 0 ≡ get_or c.args.bytes.now x 0 = get_or-set_other c.args.bytes.now c.args.flow x c.args.own 0 ne in
    let margin : min 1 (c.loop-node.winner - x) ≡ node % 2 =
    margin_beside tree.levels tree.doubled (omega (arith, tree.some)) loop.own.below
    (subst (λ (n : ℕ). IsBelow leaves n x) is other.below) in
    let won : IsWinner bytes leaves (node / 2) c.if-not-wins_over.winner = elim c.if-not-wins_over.branch [
      | then-not-wins_over v ↦
          let less : c.loop-node.most < get_or c.args.bytes.now x 0 + min 1 (c.loop-node.winner - x) = rw margin (grind (arith, v.if-not-wins_over.ensures.wins)) in
          rw v.winner-is (joins bytes leaves (node / 2) beside node x c.loop-node.winner inner (omega (arith, is)) (omega arith) (omega (arith, is)) other loop.own
          (omega (arith, less, count, loop.carried)))
      | else-not-wins_over v ↦
          let more : get_or c.args.bytes.now x 0 + min 1 (c.loop-node.winner - x) ≤ c.loop-node.most = rw margin (c.wins_over.ensures.wins.0 v.if-not-wins_over.false) in
          rw v.winner-is (joins bytes leaves (node / 2) node beside c.loop-node.winner x inner (omega arith) (omega (arith, is)) (omega (arith, is)) loop.own other
          (omega (arith, more, count, loop.carried)))
    ] in
    let carried : c.if-not-wins_over.most ≡ get_or bytes c.if-not-wins_over.winner 0 = elim c.if-not-wins_over.branch [
      | then-not-wins_over v ↦ rw (v.winner-is, v.most-is) (sym count)
      | else-not-wins_over v ↦ rw (v.winner-is, v.most-is) loop.carried
    ] in
    record {
      climbs = climbs_next tree changed below loop.climbs some c.if-not-wins_over.winner c.wins_over.new.comparisons won (omega (arith, c.wins_over.ensures.counted));
      carried = carried;
      own = won;
    }

pub returns-then-winners-node-clause-tree : goal.returns-then-winners-node-clause-tree
returns-then-winners-node-clause-tree c =
    let tree = c.requires.tree in
    let bytes = c.args.bytes.now in
    stops_fallen tree (count_written bytes c.args.flow c.args.own) (tree.busy c.args.flow c.requires.waits) c.loop-node.invariant.climbs c.requires.waits
    (written_less bytes c.args.flow c.args.own c.requires.flow c.requires.falls) c.loop-node-test.true c.if-winners-node.true

pub returns-then-winners-node-clause-few : goal.returns-then-winners-node-clause-few
returns-then-winners-node-clause-few c levels power = let few = few_by c.loop-node.invariant.climbs 0 levels (omega (arith, c.requires.tree.some)) power in omega arith

pub returns-clause-tree : goal.returns-clause-tree
returns-clause-tree c =
    let tree = c.requires.tree in
    ends tree (count_written c.args.bytes.now c.args.flow c.args.own) (tree.busy c.args.flow c.requires.waits) c.loop-node.invariant.climbs c.loop-node-test.false

pub returns-clause-few : goal.returns-clause-few
returns-clause-few c levels power =
    let few = few_by c.loop-node.invariant.climbs 0 levels (omega (arith, c.requires.tree.some, c.loop-node.invariant.climbs.above)) power in omega arith
