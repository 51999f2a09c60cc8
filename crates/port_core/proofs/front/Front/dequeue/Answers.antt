use Rattle.std.proofs.Common.{◌≡◌, ap, arith, subst, sym}
use Rattle.port_core.proofs.BookLemmas.{dequeue_adds, given_one}
use Rattle.sched_core.specs.Engines.{Running}
use Rattle.sched_core.specs.Schedulers.{IsServed}
use Rattle.port_core.specs.Ports.{moment_at}
use Rattle.port_core.proofs.front.Front.dequeue.Goals as goal
use Rattle.port_core.proofs.front.Front.dequeue.Goals.{then-is_some, else-is_some}

pub invariant_of-self-then-is_some : goal.invariant_of-self-then-is_some
invariant_of-self-then-is_some g c =
    let adds = dequeue_adds c.args.self.now.engine c.dequeue.new.self c.moment-moment.result c.in_ok-sent.sent c.in_ok-sent.ensures.made in
    let one = given_one c.in_ok-sent.sent c.if-is_some.ensures in
    record { accepted_is = omega (arith, c.args.self.now.accepted_is, adds.accepted_more); sent_is = omega (arith, c.args.self.now.sent_is, c.add.ensures.total, c.audit.ensures.total, adds.sent_more, one) }

pub returns-clause-made : goal.returns-clause-made
returns-clause-made g c =
    let same : c.if-is_some.self.engine ≡ c.dequeue.new.self = elim c.if-is_some.branch [ then-is_some w ↦ ap (λ f. f.engine) w.self-is | else-is_some w ↦ ap (λ f. f.engine) w.self-is ] in
    let old = c.args.self.now.engine in
    subst (λ (e : Running). IsServed old.sched (moment_at old c.args.now) c.in_ok-sent.sent e.sched) (sym same)
    (subst (λ m. IsServed old.sched m c.in_ok-sent.sent c.dequeue.new.self.sched) c.moment-moment.ensures.value c.in_ok-sent.ensures.made)
