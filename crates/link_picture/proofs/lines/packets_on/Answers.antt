use Rattle.std.proofs.Common.{◌∙◌, sym}
use Rattle.link_picture.proofs.LineLemmas.{own_more, own_same}
use Rattle.link_picture.proofs.lines.packets_on.Goals as goal
use Rattle.link_picture.proofs.lines.packets_on.Goals.{then-line_of-line+in_ok-push, else-line_of-line}

pub loop-packet-preserved : goal.loop-packet-preserved
loop-packet-preserved c =
    let chosen = c.args.chosen.now in
    let packets = c.args.packets.now in
    let low = c.loop-packet-test.true in
    elim c.if-line_of-line.branch [
      | then-line_of-line+in_ok-push w ↦
          let more = own_more chosen c.args.line c.loop-packet.packet-index packets _ low (sym c.line_of.ensures ∙ w.if-line_of-line.true) in
          rw w.own-is (rw ((w.in_ok-push.ensures {u = tt}).items, c.loop-packet.invariant) (sym more))
      | else-line_of-line w ↦
          let same = own_same chosen c.args.line c.loop-packet.packet-index packets _ low (λ e. w.if-line_of-line.false (c.line_of.ensures ∙ e)) in
          rw w.own-is (c.loop-packet.invariant ∙ sym same)
    ]
