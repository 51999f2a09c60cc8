use Rattle.std.proofs.Common.{arith}
use Rattle.link_picture.proofs.ChoiceLemmas.{chooses, done, stays}
use Rattle.link_picture.proofs.lines.most_of.Goals as goal
use Rattle.link_picture.proofs.lines.most_of.Goals.{in-Some+in_ok-push, in_default}

pub loop-turn-preserved : goal.loop-turn-preserved
loop-turn-preserved c =
    let tuples = c.args.tuples in
    let packets = c.args.packets.now in
    let counts = c.loop-turn.counts.items in
    let chosen = c.loop-turn.chosen.items in
    elim c.match-place_of_most.branch [
      | in-Some+in_ok-push w ↦
          let most = rw c.deref.ensures.value at w.in-Some.ensures.some in
          rw (w.counts-is, w.chosen-is, (w.in_ok-push.ensures {u = tt}).items) (chooses tuples packets c.loop-turn._turn counts chosen c.loop-turn.invariant w.in-Some.place most)
      | in_default w ↦
          let none = rw c.deref.ensures.value at (w.in_default.ensures {u = tt}).none in
          rw (w.counts-is, w.chosen-is) (stays tuples packets c.loop-turn._turn counts chosen c.loop-turn.invariant none)
    ]

pub returns : goal.returns
returns c = done c.args.tuples c.args.packets.now c.loop-turn._turn c.loop-turn.counts.items c.loop-turn.chosen.items c.loop-turn.invariant (omega arith)
