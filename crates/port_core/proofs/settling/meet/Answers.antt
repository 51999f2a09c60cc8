use Rattle.std.proofs.Common.{◌≡◌, ◌∙◌, ◌<◌, IsSome, ap, arith, get_or, length, refl, rules, slice_get, subst, sym, true, List, Some}
use Rattle.std.proofs.lemmas.Bool.{eq-eqb}
use Rattle.std.proofs.lemmas.Option.{get_or_from_slice_get, slice_get_read, slice_get_within}
use Rattle.journal_core.specs.Happened.{acceptance_of}
use Rattle.journal_core.specs.declared.event.Event.{Event}
use Rattle.port_core.specs.Ports.{Seat, is_of, new_seat}
use Rattle.port_core.proofs.MetLemmas.{fits_one, fits_place, met_next}
use Rattle.port_core.proofs.settling.meet.Goals as goal
use Rattle.port_core.proofs.settling.meet.Goals.{then-lane-ge-PLACES-via-then-lane-ge-PLACES, then-lane-ge-PLACES-via-else-lane-ge-PLACES+then-places-lane, then-next-len-via-then-next-len, then-next-len-via-else-next-len+then-not-is_same}

pub returns-then-lane-ge-PLACES-clause-fits : goal.returns-then-lane-ge-PLACES-clause-fits
returns-then-lane-ge-PLACES-clause-fits g c = (
  λ e. absurd cc,
  λ fits. absurd (
      let own : is_of c.in-Accepted.lane c.args.event.now ≡ true = rw c.in-Accepted.is (eq-eqb c.in-Accepted.lane c.in-Accepted.lane refl) in
      let place = fits_place c.args.seats.now c.args.places.now c.args.met.now c.args.event.now c.in-Accepted.lane (new_seat 0) c.requires own fits in
      elim c.then-lane-ge-PLACES.branch [
        | then-lane-ge-PLACES-via-then-lane-ge-PLACES w ↦ let on_table = place.0 in let past = w.if-lane-ge-PLACES.true in grind arith
        | then-lane-ge-PLACES-via-else-lane-ge-PLACES+then-places-lane w ↦ let there = place.1 in let past = w.if-places-lane.true in grind arith
      ]),
)

pub returns-then-next-len-clause-fits : goal.returns-then-next-len-clause-fits
returns-then-next-len-clause-fits g c = (
  λ e. absurd cc,
  λ fits. absurd (
      let own : is_of c.in-Accepted.lane c.args.event.now ≡ true = rw c.in-Accepted.is (eq-eqb c.in-Accepted.lane c.in-Accepted.lane refl) in
      let s : Seat = c.index-seats-places.result in
      let next = get_or c.args.met.now c.in-Accepted.lane 0 in
      let place = fits_place c.args.seats.now c.args.places.now c.args.met.now c.args.event.now c.in-Accepted.lane s c.requires own fits in
      let told : slice_get s.told next ≡ Some c.args.event.now = subst (λ (t : Seat). slice_get t.told next ≡ Some c.args.event.now) (sym c.index-seats-places.is) place.2 in
      let short : next < length s.told = slice_get_within s.told next c.args.event.now told in
      elim c.then-next-len.branch [
        | then-next-len-via-then-next-len w ↦ let past = w.if-next-len.true in grind arith
        | then-next-len-via-else-next-len+then-not-is_same w ↦
            let items : c.seat.inside.told.items ≡ s.told = ap (λ (x : Seat). x.told) c.seat.view_is in
            let same : w.index.result.now ≡ c.args.event.now = subst (λ (l : List Event). w.index.result.now ≡ get_or l next w.index.result.now) items w.index.ensures
            ∙ get_or_from_slice_get s.told next c.args.event.now w.index.result.now told in
            let accepted : IsSome (acceptance_of c.args.event.now) = rw c.in-Accepted.is (search rules) in
            let yes = w.is_same.ensures.1 (same, subst (λ (e : Event). IsSome (acceptance_of e)) (sym same) accepted) in
            let not_same = w.if-not-is_same.true in
            cc
      ]),
)

pub returns-clause-fits : goal.returns-clause-fits
returns-clause-fits g c = (
  λ _.
      let s : Seat = c.index-seats-places.result in
      let next = get_or c.args.met.now c.in-Accepted.lane 0 in
      let same = (c.if-not-is_same.ensures {u = tt}).0 refl in
      fits_one c.args.seats.now c.args.places.now c.args.met.now c.args.event.now c.in-Accepted.lane s c.requires
      (λ from. rw c.in-Accepted.is refl) (grind arith) (grind arith) (grind arith) (slice_get_read s.told (length s.told) next c.args.event.now refl (grind arith) (let x : get_or s.told next c.args.event.now ≡ c.args.event.now = grind arith in sym x)),
  λ _. refl,
)

pub returns-clause-met : goal.returns-clause-met
returns-clause-met g c _ before h =
    let same = ((c.if-not-is_same.ensures {u = tt}).0 refl).0 in
    met_next c.args.seats.now c.args.places.now c.args.met.now before c.args.event.now c.in-Accepted.lane c.index-seats-places.result c.requires
    (λ from. rw c.in-Accepted.is refl) (grind arith) (grind arith) (grind arith) (grind arith) (grind arith) (grind arith) h
