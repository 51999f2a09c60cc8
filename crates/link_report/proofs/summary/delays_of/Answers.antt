use Rattle.std.proofs.Common.{◌≡◌, ◌∙◌, ◌++◌, ◌∷◌, [], ap, append-nil, arith, sym}
use Rattle.link_report.proofs.SummaryLemmas.{delays_more}
use Rattle.link_report.proofs.summary.delays_of.Goals as goal
use Rattle.link_report.proofs.summary.delays_of.Goals.{in-Some+in_ok-push, in_default}

pub loop-packet-preserved : goal.loop-packet-preserved
loop-packet-preserved c =
    let more = delays_more c.args.packets.now c.loop-packet.packet-index _ _ (omega arith) c.delay_sent.ensures in
    elim c.match-delay_sent.branch [
      | in-Some+in_ok-push w ↦ rw w.delays-is ((w.in_ok-push.ensures {u = tt}).items ∙ ap (λ l. l ++ w.in-Some.delay ∷ []) c.loop-packet.invariant ∙ sym (rw w.in-Some.is at more))
      | in_default w ↦ rw w.delays-is (c.loop-packet.invariant ∙ sym (rw (w.in_default.is, append-nil) at more))
    ]
