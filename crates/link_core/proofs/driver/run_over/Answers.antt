use Rattle.std.proofs.Common.{◌∙◌, List, [], refl, subst, arith}
use Rattle.link_core.specs.declared.arrival.Arrival.{Arrival}
use Rattle.link_core.specs.Underway.{HasSentBy, IsOnLink}
use Rattle.link_core.proofs.NextSteps.{has_run, next_of, none_left, opening_on_link, rest_of}
use Rattle.link_core.proofs.SentWhole.{ends_at, opening_sent}
use Rattle.link_core.proofs.driver.run_over.Goals as goal

pub loop-i-init : goal.loop-i-init
loop-i-init g c = record {
  on_link = opening_on_link _ c.args.link.now c.args.arrivals.now _ c.requires.new c.requires.arrivals;
  sent = rw c.requires.new (opening_sent c.args.link.now c.args.arrivals.now c.at-done.result c.at-done.ensures);
  kept = refl;
}

pub meet_next-requires-clause-on_link : goal.meet_next-requires-clause-on_link
meet_next-requires-clause-on_link g c = rw (rest_of c.args.arrivals.now c.loop-i.i, c.loop-i.invariant.kept) c.loop-i.invariant.on_link

pub meet_next-requires-clause-sent : goal.meet_next-requires-clause-sent
meet_next-requires-clause-sent g c = rw (rest_of c.args.arrivals.now c.loop-i.i) c.loop-i.invariant.sent

pub loop-i-preserved : goal.loop-i-preserved
loop-i-preserved g c =
    let done = c.in_ok-busy.ensures {u = tt} in
    let inv = c.loop-i.invariant in
    let d = g.D.QueueDiscipline.rules (g.D.QueueDiscipline.kept c.args.discipline.now) in
    let new = g.D.QueueDiscipline.so_far c.meet_next.new.discipline in
    record {
      on_link = subst (λ (l : List Arrival). IsOnLink d c.args.link.now c.args.arrivals.now new c.in_ok-busy.busy l) (next_of c.args.arrivals.now c.loop-i.i) (rw inv.kept at done.on_link);
      sent = subst (λ (l : List Arrival). HasSentBy c.args.link.now c.args.arrivals.now new.standing.events c.in_ok-busy.busy l c.meet_next.new.done) (next_of c.args.arrivals.now c.loop-i.i) done.sent;
      kept = done.kept ∙ inv.kept;
    }

pub ask_before-requires-clause-on_link : goal.ask_before-requires-clause-on_link
ask_before-requires-clause-on_link g c =
    let d = g.D.QueueDiscipline.rules (g.D.QueueDiscipline.kept c.args.discipline.now) in
    let at = g.D.QueueDiscipline.so_far c.loop-i.discipline in
    rw c.loop-i.invariant.kept (subst (λ (l : List Arrival). IsOnLink d c.args.link.now c.args.arrivals.now at c.loop-i.busy l) (none_left c.args.arrivals.now c.loop-i.i c.loop-i-test.false) c.loop-i.invariant.on_link)

pub ask_before-requires-clause-sent : goal.ask_before-requires-clause-sent
ask_before-requires-clause-sent g c =
    let at = g.D.QueueDiscipline.so_far c.loop-i.discipline in
    subst (λ (l : List Arrival). HasSentBy c.args.link.now c.args.arrivals.now at.standing.events c.loop-i.busy l c.loop-i.done) (none_left c.args.arrivals.now c.loop-i.i c.loop-i-test.false) c.loop-i.invariant.sent

pub returns-clause-run : goal.returns-clause-run
returns-clause-run g c =
    let done = c.in_ok-ask_before.ensures {u = tt} in
    has_run _ c.args.link.now c.args.arrivals.now _ c.in_ok-ask_before.field-0 (rw c.loop-i.invariant.kept at done.on_link) done.waits

pub returns-clause-kept : goal.returns-clause-kept
returns-clause-kept g c = (c.in_ok-ask_before.ensures {u = tt}).kept ∙ c.loop-i.invariant.kept

pub rounded_up-requires : goal.rounded_up-requires
rounded_up-requires g c =
    let sent = (c.in_ok-ask_before.ensures {u = tt}).sent in
    record { soon = omega (arith, sent.soon); rest = sent.rest }

pub returns-clause-end : goal.returns-clause-end
returns-clause-end g c =
    let sent = (c.in_ok-ask_before.ensures {u = tt}).sent in
    ends_at c.args.link.now c.args.arrivals.now (g.D.QueueDiscipline.so_far c.ask_before.new.discipline).standing.events c.in_ok-ask_before.field-0 [] c.ask_before.new.done c.rounded_up.result sent c.rounded_up.ensures
