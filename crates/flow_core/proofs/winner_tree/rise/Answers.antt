use Rattle.std.proofs.Common.{◌≡◌, ◌+◌, ◌-◌, ◌<◌, ◌≤◌, get_or, min, refl, length-set, arith}
use Rattle.flow_core.proofs.NodeLemmas.{above_on, height_within}
use Rattle.flow_core.proofs.TopLemmas.{rises_first, rises_last, rises_one, rises_top}
use Rattle.flow_core.proofs.WinnerLemmas.{count_written, loses_read, wins_read}
use Rattle.flow_core.proofs.winner_tree.rise.Goals as goal
use Rattle.flow_core.proofs.winner_tree.rise.Goals.{then-wins, else-wins}

pub loop-node-init : goal.loop-node-init
loop-node-init c =
    rises_first c.requires.tree (count_written c.args.bytes.now c.args.flow c.args.own) c.requires.flow c.requires.waits c.requires.outside

pub loop-node-preserved-then-node-top : goal.loop-node-preserved-then-node-top
loop-node-preserved-then-node-top c = rises_one c.loop-node.invariant c.if-node-top.true

pub overflow_add-top : goal.overflow_add-top
overflow_add-top c =
    let tree = c.requires.tree in
    omega (arith, tree.most, height_within tree.levels tree.doubled c.loop-node.invariant.some c.loop-node.invariant.above)

pub loop-node-preserved : goal.loop-node-preserved
loop-node-preserved c = rises_top c.loop-node.invariant (c.loop-node.top.height + 1) (above_on c.loop-node.invariant.above) (omega arith)

pub returns-clause-tree : goal.returns-clause-tree
returns-clause-tree c =
    let bytes = c.args.bytes.now in
    let tree = c.requires.tree in
    let rises = c.loop-node.invariant in
    let meet : c.loop-node.node ≡ c.loop-node.top.node = omega arith in
    let most = get_or c.args.winners.now c.args.top.now.node 0 in
    elim c.if-wins.branch [
      | then-wins w ↦
          let won : get_or bytes most 0 + min 1 (c.args.flow - most) ≤ c.args.own = grind (arith, c.wins_over-wins.ensures.wins) in
          rw w.winners-is
          (rises_last rises tree (length-set bytes c.args.flow c.args.own) meet c.args.flow (rw meet at (rises.one.over c.args.flow refl)) (omega arith)
          (wins_read bytes c.args.flow c.args.own c.requires.flow most won))
      | else-wins w ↦
          let lost : c.args.own < get_or bytes most 0 + min 1 (c.args.flow - most) = grind (arith, c.wins_over-wins.ensures.wins) in
          rw w.winners-is
          (rises_last rises tree (length-set bytes c.args.flow c.args.own) meet most (rises.others.over most rises.most_is)
          (loses_read bytes c.args.flow c.args.own c.requires.flow most rises.most_is.0 lost) (omega arith))
    ]
