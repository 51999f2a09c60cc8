use Rattle.std.proofs.Common.{◌+◌, ◌-◌, ◌≤◌, get_or, min, arith}
use Rattle.flow_core.proofs.TopLemmas.{below_top}
use Rattle.flow_core.proofs.WinnerLemmas.{climbs_won, count_written, ends, starts, top_grown, wins_read, written_more}
use Rattle.flow_core.proofs.winner_tree.raise_below_top.Goals as goal

pub returns-then-most-flow-clause-tree : goal.returns-then-most-flow-clause-tree
returns-then-most-flow-clause-tree c =
    let bytes = c.args.bytes.now in
    let flow = c.args.flow in
    top_grown c.requires.tree (count_written bytes flow c.args.own) c.requires.below (written_more bytes flow c.args.own c.requires.flow c.requires.grows)
    (rw c.if-most-flow.true at c.requires.waits) c.if-most-flow.true

pub loop-node-init : goal.loop-node-init
loop-node-init c =
    let bytes = c.args.bytes.now in
    let most = get_or c.args.winners.now c.args.top.node 0 in
    let won : get_or bytes most 0 + min 1 (c.args.flow - most) ≤ c.args.own = grind (arith, c.wins_over-wins.ensures.wins, c.margin_over.ensures) in
    record {
      climbs = starts c.requires.tree (count_written bytes c.args.flow c.args.own) c.requires.below;
      some = below_top c.requires.tree c.requires.below c.if-most-flow.false;
      wins = wins_read bytes c.args.flow c.args.own c.requires.flow most won;
    }

pub loop-node-preserved : goal.loop-node-preserved
loop-node-preserved c =
    let bytes = c.args.bytes.now in
    let loop = c.loop-node.invariant in
    let more = written_more bytes c.args.flow c.args.own c.requires.flow c.requires.grows in
    let climbs = climbs_won c.requires.tree (count_written bytes c.args.flow c.args.own) c.requires.below more loop.climbs loop.some loop.wins in
    record { climbs = climbs; some = omega (arith, climbs.above); wins = loop.wins }

pub returns-then-node-top-clause-tree : goal.returns-then-node-top-clause-tree
returns-then-node-top-clause-tree c =
    let bytes = c.args.bytes.now in
    let loop = c.loop-node.invariant in
    let changed = count_written bytes c.args.flow c.args.own in
    let more = written_more bytes c.args.flow c.args.own c.requires.flow c.requires.grows in
    ends c.requires.tree changed c.requires.below (climbs_won c.requires.tree changed c.requires.below more loop.climbs loop.some loop.wins) (omega arith)
