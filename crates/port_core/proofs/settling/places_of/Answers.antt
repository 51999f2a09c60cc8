use Rattle.std.proofs.Common.{◌≡◌, ◌≢◌, ap, arith, get_or, length, refl, set, subst, sym, ◌+◌, ◌-◌, ◌^◌}
use Rattle.port_core.specs.Ports.{Seat}
use Rattle.port_core.specs.Settling.{AreTheirPlaces}
use Rattle.port_core.proofs.PlaceLemmas.{ArePlacesSoFar, have_lanes, places_more, places_none, places_taken, their_places}
use Rattle.port_core.proofs.settling.places_of.Given.{Over}
use Rattle.port_core.proofs.settling.places_of.Goals as goal
use Rattle.port_core.proofs.settling.places_of.Goals.{After-loop-place, then-lane-ge-PLACES-via-then-lane-ge-PLACES, then-lane-ge-PLACES-via-else-lane-ge-PLACES+then-places-lane}

pub loop-place-init : goal.loop-place-init
loop-place-init g c = places_none c.args.seats.now (2 ^ 64 - 1)

pub returns-then-lane-ge-PLACES-clause-lanes : goal.returns-then-lane-ge-PLACES-clause-lanes
returns-then-lane-ge-PLACES-clause-lanes g c = (
  λ e. absurd cc,
  λ lanes. absurd (
      let seats = c.args.seats.now in
      let s : Seat = c.index-seats-place.result in
      let lane : c.seat.inside.lane ≡ s.lane = ap (λ (x : Seat). x.lane) c.seat.view_is in
      let below = lanes.below c.loop-place.place s c.loop-place-test.true in
      elim c.then-lane-ge-PLACES.branch [
        | then-lane-ge-PLACES-via-then-lane-ge-PLACES w ↦
            omega (arith, below, lane, ap (λ (x : Seat). x.lane) c.index-seats-place.is, w.if-lane-ge-PLACES.true)
        | then-lane-ge-PLACES-via-else-lane-ge-PLACES+then-places-lane w ↦
            places_taken seats c.loop-place.places (2 ^ 64 - 1) c.loop-place.place s c.loop-place-test.true c.index-seats-place.is
            (omega (arith, lane, w.if-lane-ge-PLACES.false, c.loop-place.invariant.size))
            (subst (λ l. get_or c.loop-place.places l 0 ≢ 18446744073709551615) lane w.if-places-lane.true) c.loop-place.invariant lanes
      ]),
)

-- at the loop's end
placed : (g : Over) (c : After-loop-place g) → AreTheirPlaces c.args.seats.now c.loop-place.places
placed g c =
    let all : c.loop-place.place ≡ length c.args.seats.now = omega arith in
    their_places c.args.seats.now c.loop-place.places (2 ^ 64 - 1) (omega arith) (subst (ArePlacesSoFar c.args.seats.now c.loop-place.places (2 ^ 64 - 1)) all c.loop-place.invariant)

pub returns-clause-lanes : goal.returns-clause-lanes
returns-clause-lanes g c = (λ _. have_lanes c.args.seats.now c.loop-place.places c.loop-place.invariant.size (placed g c), λ _. refl)

pub returns-clause-places : goal.returns-clause-places
returns-clause-places g c = placed g c

pub loop-place-preserved : goal.loop-place-preserved
loop-place-preserved g c =
    let s : Seat = c.index-seats-place.result in
    let lane : c.seat.inside.lane ≡ s.lane = ap (λ (x : Seat). x.lane) c.seat.view_is in
    subst (λ l. ArePlacesSoFar c.args.seats.now (set c.loop-place.places l c.loop-place.place) (2 ^ 64 - 1) (c.loop-place.place + 1)) (sym lane)
    (places_more c.args.seats.now c.loop-place.places (2 ^ 64 - 1) c.loop-place.place s c.loop-place-test.true c.index-seats-place.is
    (omega (arith, lane, c.if-lane-ge-PLACES.false, c.loop-place.invariant.size))
    (subst (λ l. get_or c.loop-place.places l 0 ≡ 18446744073709551615) lane c.if-places-lane.false) (omega arith) c.loop-place.invariant)
