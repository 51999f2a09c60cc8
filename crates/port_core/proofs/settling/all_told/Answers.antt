use Rattle.std.proofs.Common.{arith, refl, subst, sym, take}
use Rattle.std.proofs.lemmas.List.{take_all, take_more}
use Rattle.port_core.proofs.MetLemmas.{done_told, met_none, told_done, told_next}
use Rattle.port_core.specs.Settling.{AreMet}
use Rattle.port_core.proofs.settling.all_told.Goals as goal

pub loop-event-init : goal.loop-event-init
loop-event-init g c = met_none c.args.seats.now 65

pub loop-event-preserved : goal.loop-event-preserved
loop-event-preserved g c =
    let more = take_more c.args.events.now c.loop-event.event-index c.event-item.result c.loop-event-test.true in
    subst (AreMet c.args.seats.now c.meet.new.met) (sym (rw c.event-item.is more)) (c.if-not-meet.ensures.met refl (take c.loop-event.event-index c.args.events.now) c.loop-event.invariant)

pub returns-then-not-meet : goal.returns-then-not-meet
returns-then-not-meet g c = (
  λ e. absurd cc,
  λ all.
      let yes = c.meet.ensures.fits.1 (told_next c.args.seats.now c.loop-event.met c.args.events.now c.loop-event.event-index c.event-item.result c.loop-event.invariant all c.loop-event-test.true c.event-item.is) in
      absurd (let not_met = c.if-not-meet.true in cc),
)

pub returns : goal.returns
returns g c =
    let past = c.loop-event-test.false in
    let met : AreMet c.args.seats.now c.loop-event.met c.args.events.now =
    subst (AreMet c.args.seats.now c.loop-event.met) (take_all c.loop-event.event-index c.args.events.now (omega arith)) c.loop-event.invariant in (
      λ yes. done_told c.args.seats.now c.loop-event.met c.args.events.now ((c.in-Some.ensures {u = tt}).lanes.0 refl) met (c.are_done.ensures.0 yes),
      λ all. c.are_done.ensures.1 (told_done c.args.seats.now c.loop-event.met c.args.events.now met all),
    )
