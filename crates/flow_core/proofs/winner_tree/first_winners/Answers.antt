use Rattle.std.proofs.Common.{◌≡◌, ◌*◌, ◌+◌, ◌-◌, ◌/◌, inl, inr, length, arith, get_or-set_other, get_or-set_same}
use Rattle.std.proofs.lemmas.Bool.{cases_eq}
use Rattle.std.proofs.lemmas.List.{get_or_read}
use Rattle.flow_core.specs.WinnerNodes.{IsBelow}
use Rattle.flow_core.proofs.NodeLemmas.{below_next}
use Rattle.flow_core.proofs.winner_tree.first_winners.Goals as goal
use Rattle.flow_core.proofs.winner_tree.first_winners.Goals.{then-node-leaves, else-node-leaves}

pub loop-node-preserved : goal.loop-node-preserved
loop-node-preserved c =
    let leaves = c.args.leaves in
    let w = c.loop-node.winners.items in
    let kept = c.loop-node.invariant in
    let node = c.loop-node.node - 1 in
    let size : length w ≡ 2 * leaves = omega (arith, c.loop-node.winners.ok.0) in
    let below : IsBelow leaves node c.if-node-leaves.held = elim c.if-node-leaves.branch [
      | then-node-leaves v ↦
          let read = get_or_read w (2 * node) v.index.result.now (omega arith) v.index.ensures 0 in
          let down = kept.held (2 * node) (omega arith) (omega arith) in
          let half : 2 * node / 2 ≡ node = omega arith in
          rw (v.held-is, read) (rw half at (below_next down))
      | else-node-leaves v ↦
          let here : leaves + (node - leaves) ≡ node = omega arith in
          rw v.held-is (record { within = omega arith; levels = 0; meets = here })
    ] in
    record {
      within = omega arith;
      size = kept.size;
      held = λ other from inner. elim (cases_eq other node) [
        | inl same ↦ rw (same, get_or-set_same w node c.if-node-leaves.held 0 (omega arith)) below
        | inr ne ↦ rw (get_or-set_other w node other c.if-node-leaves.held 0 ne) (kept.held other (omega arith) inner)
      ];
    }
