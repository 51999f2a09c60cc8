use Rattle.std.proofs.Common.{IsTrue, Some, sym, ◌≤◌, ◌∙◌, arith}
use Rattle.std.proofs.lemmas.Bool.{false≢true}
use Rattle.link_core.specs.QueueDisciplines.{sent_count}
use Rattle.link_core.specs.Underway.{HasAsked, HasSentBy, IsFreeInTime}
use Rattle.link_core.specs.declared.arrival.TheConstants.{MAX_ARRIVALS}
use Rattle.link_core.proofs.LinkTimes.{asks_free, coming_after, dequeue_fits, not_by, soon_enough}
use Rattle.link_core.proofs.NextSteps.{asked_count, asked_on_link, sent_bound}
use Rattle.link_core.proofs.SentWhole.{after_asked, asked_busy}
use Rattle.link_core.proofs.driver.ask_before.Goals as goal

pub ask-requires : goal.ask-requires
ask-requires g c =
    let on = c.loop-busy.invariant.on_link in
    let at = (g.D.QueueDiscipline.so_far c.loop-busy.discipline).standing in
    let frees : IsFreeInTime c.args.link.now at.state.last (sent_count at.events) c.in-Some.free = rw c.in-Some.is at on.on_time.frees in
    let bound = sent_bound _ c.args.link.now c.args.arrivals.now _ _ _ on in
    let few : sent_count at.events ≤ MAX_ARRIVALS = omega (arith, bound.0, c.requires.few) in
    record {
      few = c.requires.few;
      fits = dequeue_fits at.state c.in-Some.free.moment (soon_enough c.in-Some.free.moment (sent_count at.events) frees.soon few) frees.later;
      rest = omega (arith, frees.rest);
      known = bound.1;
    }

pub loop-busy-preserved : goal.loop-busy-preserved
loop-busy-preserved g c =
    let inv = c.loop-busy.invariant in
    let d = g.D.QueueDiscipline.rules (g.D.QueueDiscipline.kept c.args.discipline.now) in
    let old = g.D.QueueDiscipline.so_far c.loop-busy.discipline in
    let new = g.D.QueueDiscipline.so_far c.ask.new.discipline in
    let busy = c.in_ok-busy.busy in
    let done = c.in_ok-busy.ensures {u = tt} in
    let asked : HasAsked d c.args.link.now c.args.arrivals.now c.in-Some.free old busy new = rw inv.kept at done.asked in
    let frees : IsFreeInTime c.args.link.now old.standing.state.last (sent_count old.standing.events) c.in-Some.free = rw c.in-Some.is at inv.on_link.on_time.frees in
    let under = rw c.in-Some.is at inv.on_link.underway in
    let later = not_by c.in-Some.free.moment c.args.coming.now (λ by. let t : IsTrue c.comes_by.result = c.comes_by.ensures.1 by in absurd (false≢true (sym c.if-comes_by.false ∙ t))) in
    let bound = sent_bound d c.args.link.now c.args.arrivals.now old _ _ inv.on_link in
    let few : sent_count old.standing.events ≤ MAX_ARRIVALS = omega (arith, bound.0, c.requires.few) in
    let sent : HasSentBy c.args.link.now c.args.arrivals.now old.standing.events (Some c.in-Some.free) c.args.coming.now c.loop-busy.done = rw c.in-Some.is at inv.sent in
    let from = asked_busy c.args.link.now c.args.arrivals.now old.standing.events c.in-Some.free c.args.coming.now c.loop-busy.done sent frees.rest later (soon_enough c.in-Some.free.moment (sent_count old.standing.events) frees.soon few) in
    record {
      on_link = asked_on_link d c.args.link.now c.args.arrivals.now old new c.in-Some.free busy _ under asked (λ events. asks_free c.args.link.now c.args.arrivals.now c.in-Some.free c.args.coming.now events frees.rest later) frees.soon
          (coming_after old.standing.state.last c.in-Some.free.moment c.args.coming.now later inv.on_link.on_time.comes);
      sent = rw done.done (after_asked d c.args.link.now c.args.arrivals.now old new c.in-Some.free busy c.args.coming.now c.loop-busy.done asked from);
      kept = done.kept ∙ inv.kept;
    }

pub loop-busy-smaller : goal.loop-busy-smaller
loop-busy-smaller g c =
    let d = g.D.QueueDiscipline.rules (g.D.QueueDiscipline.kept c.args.discipline.now) in
    let old = g.D.QueueDiscipline.so_far c.loop-busy.discipline in
    let new = g.D.QueueDiscipline.so_far c.ask.new.discipline in
    let busy = c.in_ok-busy.busy in
    let asked : HasAsked d c.args.link.now c.args.arrivals.now c.in-Some.free old busy new = rw c.loop-busy.invariant.kept at (c.in_ok-busy.ensures {u = tt}).asked in
    let more = asked_count d c.args.link.now c.args.arrivals.now old new c.in-Some.free busy asked in
    let inv = loop-busy-preserved g c in
    let bound = (sent_bound d c.args.link.now c.args.arrivals.now new _ _ inv.on_link).0 in
    rw c.in-Some.is (omega (arith, more, bound))
