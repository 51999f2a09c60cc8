use Rattle.std.proofs.Common.{ap, sym, ◌∙◌, ◌∷◌, []}
use Rattle.packet_core.specs.Packets.{PacketParts}
use Rattle.journal_core.specs.Happened.{acceptances}
use Rattle.journal_core.specs.declared.step.Admitted.{Admitted}
use Rattle.sched_core.specs.Schedulers.{discipline_of}
use Rattle.trace_core.proofs.TraceRunLemmas.{accepted_more, enqueue_accepts}
use Rattle.trace_core.proofs.trace_run.make_enqueue.Goals as goal

pub returns-in_ok-accept-in-Ok-clause-seen : goal.returns-in_ok-accept-in-Ok-clause-seen
returns-in_ok-accept-in-Ok-clause-seen c =
    let old = c.args.sched.now.standing in
    let advances = c.in-Ok.ensures.made.advances in
    let one = enqueue_accepts (discipline_of c.args.sched.now) old.state c.args.moment c.args.lane c.args.packet advances.made c.enqueue.new.self.standing.state advances.makes.1 in
    let all = accepted_more old.events c.enqueue.new.self.standing.events advances.made (one.0 ∷ []) advances.journal one.1 in
    rw all (c.in_ok-accept-in-Ok.ensures.added (acceptances old.events) one.0 (ap (λ (p : PacketParts). p.tuple) one.2 ∙ sym c.tuple.ensures) (one.3 ∙ sym (ap (λ (a : Admitted). a.flow) c.in-Ok.ensures.admitted)) c.requires)
