use Rattle.std.proofs.Common.{◌+◌, ◌≤◌, List, ◌∷◌, drop, refl, sym, subst, arith}
use Rattle.std.proofs.lemmas.Bool.{false≢true}
use Rattle.link_core.specs.declared.arrival.Arrival.{Arrival}
use Rattle.link_core.specs.Underway.{AreComing}
use Rattle.link_core.proofs.NextSteps.{none_left}
use Rattle.link_core.proofs.LinkTimes.{all_come, are_arrivals, drop_there}
use Rattle.link_core.proofs.arrival.Arrival.may_come.Goals as goal
use Rattle.link_core.proofs.arrival.Arrival.may_come.Goals.{then-arrival-last-via-then-arrival-last, then-arrival-last-via-else-arrival-last+then-arrival-ge-MAX_ARRIVAL_MOMENT}

pub returns : goal.returns
returns c =
    let arrivals = c.args.arrivals.now in
    let i = c.loop-arrival.arrival-index in
    let none = none_left arrivals i c.loop-arrival-test.false in
    let rest = subst (λ (l : List Arrival). AreComing c.loop-arrival.last l) (sym none) tt in
    (λ t. are_arrivals arrivals c.if-arrivals-gt-MAX_ARRIVALS.false (c.loop-arrival.invariant.0 rest), λ are. refl)

pub returns-then-arrival-last : goal.returns-then-arrival-last
returns-then-arrival-last c =
    let arrivals = c.args.arrivals.now in
    let i = c.loop-arrival.arrival-index in
    let a = c.arrival-item.result in
    let first = drop_there arrivals i a c.loop-arrival-test.true c.arrival-item.is in (
      λ t. absurd (false≢true t),
      λ are.
          let next : AreComing c.loop-arrival.last (a ∷ drop (i + 1) arrivals) = subst (λ (l : List Arrival). AreComing c.loop-arrival.last l) first (c.loop-arrival.invariant.1 (all_come arrivals are)) in
          let low : c.loop-arrival.last ≤ a.moment = next.0 in
          let soon = next.1 in
          absurd
          (elim c.then-arrival-last.branch [
            | then-arrival-last-via-then-arrival-last w ↦ omega (arith, w.if-arrival-last.true)
            | then-arrival-last-via-else-arrival-last+then-arrival-ge-MAX_ARRIVAL_MOMENT w ↦ omega (arith, w.if-arrival-ge-MAX_ARRIVAL_MOMENT.true)
          ]),
    )
