use Rattle.std.proofs.Common.{◌≡◌, ◌+◌, ◌-◌, ◌/◌, ◌<◌, get_or, min, ap, refl, ◌∙◌, arith}
use Rattle.flow_core.proofs.NodeLemmas.{none_between}
use Rattle.flow_core.proofs.TopLemmas.{below_top}
use Rattle.flow_core.proofs.WinnerLemmas.{climbs_grown, climbs_still, count_written, few_by, loses_read, starts, stops_grown, wins_read, written_more}
use Rattle.flow_core.proofs.winner_tree.climb.Goals as goal

pub loop-node-init : goal.loop-node-init
loop-node-init c =
    let tree = c.requires.tree in
    record {
      climbs = starts tree (count_written c.args.bytes.now c.args.flow c.args.own) c.requires.below;
      some = below_top tree c.requires.below c.requires.another;
      counted = omega arith;
    }

pub loop-node-preserved : goal.loop-node-preserved
loop-node-preserved c =
    let bytes = c.args.bytes.now in
    let more = written_more bytes c.args.flow c.args.own c.requires.flow c.requires.grows in
    record {
      climbs = climbs_still c.requires.tree (count_written bytes c.args.flow c.args.own) c.requires.below more c.loop-node.invariant.climbs (omega arith) c.if-winner-flow.false;
      some = omega arith;
      counted = c.loop-node.invariant.counted;
    }

pub loop-node-preserved-then-winner-flow : goal.loop-node-preserved-then-winner-flow
loop-node-preserved-then-winner-flow c =
    let bytes = c.args.bytes.now in
    let x = get_or c.loop-node.winners (c.loop-node.node / 2) 0 in
    let more = written_more bytes c.args.flow c.args.own c.requires.flow c.requires.grows in
    let won = wins_read bytes c.args.flow c.args.own c.requires.flow x (omega (arith, c.margin_over-margin.ensures, c.wins_over.ensures.wins.0 c.if-not-wins_over.false)) in
    record {
      climbs = climbs_grown c.requires.tree (count_written bytes c.args.flow c.args.own) c.requires.below more c.loop-node.invariant.climbs (omega arith)
          (c.wins_over.new.comparisons - 1) won (omega (arith, c.wins_over.ensures.counted));
      some = omega arith;
      counted = omega (arith, c.wins_over.ensures.counted);
    }

pub returns-then-not-wins_over-clause-tree : goal.returns-then-not-wins_over-clause-tree
returns-then-not-wins_over-clause-tree c =
    let bytes = c.args.bytes.now in
    let x = get_or c.loop-node.winners (c.loop-node.node / 2) 0 in
    let more = written_more bytes c.args.flow c.args.own c.requires.flow c.requires.grows in
    let less : c.args.own < get_or bytes x 0 + min 1 (c.args.flow - x) = grind (arith, c.if-not-wins_over.ensures.wins) in
    let lost = loses_read bytes c.args.flow c.args.own c.requires.flow x c.if-winner-flow.true less in
    stops_grown c.requires.tree (count_written bytes c.args.flow c.args.own) c.requires.below more c.loop-node.invariant.climbs (omega arith) x refl c.if-winner-flow.true lost

pub returns-then-not-wins_over-clause-few : goal.returns-then-not-wins_over-clause-few
returns-then-not-wins_over-clause-few c levels power =
    let few = few_by c.loop-node.invariant.climbs 2 levels (omega (arith, c.requires.tree.some)) power in
    omega (arith, c.wins_over.ensures.counted)

pub returns-clause-tree : goal.returns-clause-tree
returns-clause-tree c =
    let bytes = c.args.bytes.now in
    let w = c.args.winners.now in
    let climbs = c.loop-node.invariant.climbs in
    let more = written_more bytes c.args.flow c.args.own c.requires.flow c.requires.grows in
    let least = none_between climbs.over c.requires.below c.loop-node.invariant.some in
    let top : c.loop-node.node / 2 ≡ c.args.top.node = omega arith in
    stops_grown c.requires.tree (count_written bytes c.args.flow c.args.own) c.requires.below more climbs (omega arith) (get_or w c.args.top.node 0)
    (climbs.rest (c.loop-node.node / 2) (omega (arith, c.requires.tree.some)) ∙ ap (λ k. get_or w k 0) top) c.requires.another c.requires.loses

pub returns-clause-few : goal.returns-clause-few
returns-clause-few c levels power = let few = few_by c.loop-node.invariant.climbs 1 levels (omega (arith, c.requires.tree.some)) power in omega arith
