use Rattle.flow_core.proofs.WinnerLemmas.{count_written, ends, starts, stops_fallen, written_less}
use Rattle.flow_core.proofs.winner_tree.lower.Goals as goal
use Rattle.flow_core.proofs.winner_tree.lower.Goals.{else-leaf-top-via-then-leaf-top+else-winners-leaf, else-leaf-top-via-else-leaf-top}

pub returns-else-leaf-top-clause-tree : goal.returns-else-leaf-top-clause-tree
returns-else-leaf-top-clause-tree c =
    let tree = c.requires.tree in
    let bytes = c.args.bytes.now in
    let changed = count_written bytes c.args.flow c.args.own in
    let below = tree.busy c.args.flow c.requires.waits in
    let leaf = starts tree changed below in
    elim c.else-leaf-top.branch [
      | else-leaf-top-via-then-leaf-top+else-winners-leaf v ↦
          stops_fallen tree changed below leaf c.requires.waits (written_less bytes c.args.flow c.args.own c.requires.flow c.requires.falls) v.if-leaf-top.true
          v.if-winners-leaf.false
      | else-leaf-top-via-else-leaf-top v ↦ ends tree changed below leaf v.if-leaf-top.false
    ]
