use Rattle.std.proofs.Common.{List, ◌∷◌, Some, None, drop, subst, arith}
use Rattle.link_core.specs.declared.arrival.Arrival.{Arrival}
use Rattle.link_core.specs.QueueDisciplines.{HasArrived}
use Rattle.link_core.specs.Underway.{ComesBy, HasSentBy, IsOnLink}
use Rattle.link_core.proofs.LinkTimes.{dequeue_fits, enqueue_fits, first_of}
use Rattle.link_core.proofs.NextSteps.{ok_both, ok_more, sent_bound, taken_count, taken_idle, taken_on_link}
use Rattle.link_core.proofs.SentWhole.{after_asked, after_idle, after_taken}
use Rattle.link_core.proofs.driver.meet_next.Goals as goal

pub arrive-requires : goal.arrive-requires
arrive-requires g c =
    let a = c.index-coming-0.result in
    let d = g.D.QueueDiscipline.rules (g.D.QueueDiscipline.kept c.args.discipline.now) in
    let e = g.D.QueueDiscipline.so_far c.ask_before.new.discipline in
    let met = c.in_ok-left.ensures {u = tt} in
    let first = first_of c.args.coming.now a c.requires.some c.index-coming-0.is in
    let on = subst (λ (l : List Arrival). IsOnLink d c.args.link.now c.args.arrivals.now e c.in_ok-left.left l) first met.on_link in
    let comes = on.on_time.comes in
    let bound = (sent_bound d c.args.link.now c.args.arrivals.now e _ _ on).1 in
    enqueue_fits e.standing.state a.moment 0 a.packet (omega (arith, comes.1)) comes.0 on.underway.opened (omega (arith, bound, c.requires.few))

pub ask-requires : goal.ask-requires
ask-requires g c =
    let a = c.index-coming-0.result in
    let d = g.D.QueueDiscipline.rules (g.D.QueueDiscipline.kept c.args.discipline.now) in
    let e = g.D.QueueDiscipline.so_far c.ask_before.new.discipline in
    let mid = g.D.QueueDiscipline.so_far c.arrive.new.self in
    let met = c.in_ok-left.ensures {u = tt} in
    let came : HasArrived d e a.moment a.packet mid = rw met.kept at (c.in_ok-arrive.ensures {u = tt}).arrived in
    let first = first_of c.args.coming.now a c.requires.some c.index-coming-0.is in
    let on = subst (λ (l : List Arrival). IsOnLink d c.args.link.now c.args.arrivals.now e c.in_ok-left.left l) first met.on_link in
    let comes = on.on_time.comes in
    let u = on.underway.ids in
    let id = came.advances.makes.1.next_id in
    let last = (taken_count d c.args.link.now c.args.arrivals.now e mid a came).1 in
    rw c.at.ensures (record {
      few = c.requires.few;
      fits = dequeue_fits mid.standing.state a.moment (omega (arith, comes.1)) (omega (arith, last));
      rest = omega arith;
      known = omega (arith, u, id);
    })

pub returns-in-Some-clause-on_link : goal.returns-in-Some-clause-on_link
returns-in-Some-clause-on_link g c =
    let a = c.index-coming-0.result in
    let d = g.D.QueueDiscipline.rules (g.D.QueueDiscipline.kept c.args.discipline.now) in
    let e = g.D.QueueDiscipline.so_far c.ask_before.new.discipline in
    let mid = g.D.QueueDiscipline.so_far c.arrive.new.self in
    let met = c.in_ok-left.ensures {u = tt} in
    let came : HasArrived d e a.moment a.packet mid = rw met.kept at (c.in_ok-arrive.ensures {u = tt}).arrived in
    let first = first_of c.args.coming.now a c.requires.some c.index-coming-0.is in
    let on = subst (λ (l : List Arrival). IsOnLink d c.args.link.now c.args.arrivals.now e c.in_ok-left.left l) first met.on_link in
    let waits = rw c.in-Some.is at met.waits in
    let by = subst (λ (l : List Arrival). ComesBy c.in-Some.free.moment l) first waits in
    taken_on_link d c.args.link.now c.args.arrivals.now e mid c.in-Some.free a (drop 1 c.args.coming.now) (rw c.in-Some.is at on) came by

pub returns-in-None-clause-on_link : goal.returns-in-None-clause-on_link
returns-in-None-clause-on_link g c =
    let a = c.index-coming-0.result in
    let d = g.D.QueueDiscipline.rules (g.D.QueueDiscipline.kept c.args.discipline.now) in
    let e = g.D.QueueDiscipline.so_far c.ask_before.new.discipline in
    let mid = g.D.QueueDiscipline.so_far c.arrive.new.self in
    let new = g.D.QueueDiscipline.so_far c.ask.new.discipline in
    let rest = drop 1 c.args.coming.now in
    let met = c.in_ok-left.ensures {u = tt} in
    let arrived = c.in_ok-arrive.ensures {u = tt} in
    let came : HasArrived d e a.moment a.packet mid = rw met.kept at arrived.arrived in
    let first = first_of c.args.coming.now a c.requires.some c.index-coming-0.is in
    let on = subst (λ (l : List Arrival). IsOnLink d c.args.link.now c.args.arrivals.now e c.in_ok-left.left l) first met.on_link in
    ok_more _ _ c.ask.result
    (λ busy asked. taken_idle d c.args.link.now c.args.arrivals.now e mid new busy a rest (rw c.in-None.is at on) came (rw (c.at.ensures, arrived.kept, met.kept) at asked))
    c.ask.ensures.asked

pub returns-in-Some-clause-sent : goal.returns-in-Some-clause-sent
returns-in-Some-clause-sent g c =
    let a = c.index-coming-0.result in
    let d = g.D.QueueDiscipline.rules (g.D.QueueDiscipline.kept c.args.discipline.now) in
    let e = g.D.QueueDiscipline.so_far c.ask_before.new.discipline in
    let mid = g.D.QueueDiscipline.so_far c.arrive.new.self in
    let met = c.in_ok-left.ensures {u = tt} in
    let came : HasArrived d e a.moment a.packet mid = rw met.kept at (c.in_ok-arrive.ensures {u = tt}).arrived in
    let sent : HasSentBy c.args.link.now c.args.arrivals.now e.standing.events (Some c.in-Some.free) c.args.coming.now c.ask_before.new.done = rw c.in-Some.is at met.sent in
    after_taken d c.args.link.now c.args.arrivals.now e mid a came c.in-Some.free c.args.coming.now (drop 1 c.args.coming.now) c.ask_before.new.done sent

pub returns-in-None-clause-sent : goal.returns-in-None-clause-sent
returns-in-None-clause-sent g c =
    let a = c.index-coming-0.result in
    let d = g.D.QueueDiscipline.rules (g.D.QueueDiscipline.kept c.args.discipline.now) in
    let e = g.D.QueueDiscipline.so_far c.ask_before.new.discipline in
    let mid = g.D.QueueDiscipline.so_far c.arrive.new.self in
    let new = g.D.QueueDiscipline.so_far c.ask.new.discipline in
    let rest = drop 1 c.args.coming.now in
    let met = c.in_ok-left.ensures {u = tt} in
    let arrived = c.in_ok-arrive.ensures {u = tt} in
    let came : HasArrived d e a.moment a.packet mid = rw met.kept at arrived.arrived in
    let first = first_of c.args.coming.now a c.requires.some c.index-coming-0.is in
    let on = subst (λ (l : List Arrival). IsOnLink d c.args.link.now c.args.arrivals.now e c.in_ok-left.left l) first met.on_link in
    let comes = on.on_time.comes in
    let idle : HasSentBy c.args.link.now c.args.arrivals.now e.standing.events None (a ∷ rest) c.ask_before.new.done =
    subst (λ (l : List Arrival). HasSentBy c.args.link.now c.args.arrivals.now e.standing.events None l c.ask_before.new.done) first (rw c.in-None.is at met.sent) in
    let from = after_idle d c.args.link.now c.args.arrivals.now e mid a came rest c.ask_before.new.done idle comes.2 (omega (arith, comes.1)) in
    ok_both _ _ _ c.ask.result
    (λ busy asked last. rw last (after_asked d c.args.link.now c.args.arrivals.now mid new (record { moment = a.moment; rest = 0 }) busy rest c.ask_before.new.done (rw (c.at.ensures, arrived.kept, met.kept) at asked) from))
    c.ask.ensures.asked c.ask.ensures.done
