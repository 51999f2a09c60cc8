use Rattle.std.proofs.Common.{◌≡◌, ◌<◌, length, arith, ◌∙◌, sym, ap}
use Rattle.link_core.specs.Arrivals.{length_at}
use Rattle.link_core.proofs.NextSteps.{length_there}
use Rattle.link_core.proofs.SentIds.{given_of, none_given}
use Rattle.link_core.proofs.driver.ask.Goals as goal

pub bounds-arrivals-sent : goal.bounds-arrivals-sent
bounds-arrivals-sent g c =
    let served = (c.in_ok-sent.ensures {u = tt}).served in
    let below = rw c.in-Some.is at served.known in
    omega (arith, below, c.requires.known)

pub offset_bounds-arrivals-sent : goal.offset_bounds-arrivals-sent
offset_bounds-arrivals-sent g c =
    let served = (c.in_ok-sent.ensures {u = tt}).served in
    let below = rw c.in-Some.is at served.known in
    omega (arith, below, c.requires.known, c.requires.few)

pub returns-in-Some-clause-asked : goal.returns-in-Some-clause-asked
returns-in-Some-clause-asked g c =
    let serves = (c.in_ok-sent.ensures {u = tt}).served in
    let one = given_of c.args.now.moment serves.gives.given c.in_ok-sent.sent c.in-Some.sent serves.gives.told c.in-Some.is in
    let below = rw c.in-Some.is at serves.known in
    let within : c.in-Some.sent.id < length c.args.arrivals.now = omega (arith, below, c.requires.known) in
    let long : c.len.result ≡ length_at c.args.arrivals.now one.packet.waiting.id = c.len.ensures.value ∙ sym (length_there c.args.arrivals.now c.in-Some.sent.id c.index-arrivals-sent.result within) ∙ ap (length_at c.args.arrivals.now) one.named in
    record {
      sent = c.in_ok-sent.sent;
      serves = serves;
      sends = rw one.gives (rw long at c.after.ensures);
    }

pub returns-in-None-clause-asked : goal.returns-in-None-clause-asked
returns-in-None-clause-asked g c =
    let serves = (c.in_ok-sent.ensures {u = tt}).served in
    record {
      sent = c.in_ok-sent.sent;
      serves = serves;
      sends = rw (none_given c.args.now.moment serves.gives.given c.in_ok-sent.sent serves.gives.told c.in-None.is) tt;
    }
