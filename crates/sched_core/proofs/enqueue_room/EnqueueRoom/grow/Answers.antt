use Rattle.std.proofs.Common.{refl, arith}
use Rattle.sched_core.proofs.EnqueueRoomLemmas.{takes_some}
use Rattle.sched_core.proofs.enqueue_room.EnqueueRoom.grow.Goals as goal

pub returns-in_err-reserve-clause-memory : goal.returns-in_err-reserve-clause-memory
returns-in_err-reserve-clause-memory g c =
    let taken = c.reserve.ensures in
    takes_some _ _ _ _ _ _ refl refl refl (omega arith) taken.events taken.sent taken.lost taken.counts taken.made_for
    (λ closes few h. record { places = h.places; events = omega (arith, h.events, taken.room) })

pub returns-in_err-reserve-2-clause-memory : goal.returns-in_err-reserve-2-clause-memory
returns-in_err-reserve-2-clause-memory g c =
    let taken = c.reserve.ensures in
    let more = c.reserve-2.ensures in
    takes_some _ _ _ _ _ _ more.queues more.arrived more.comparisons more.capacity taken.events taken.sent taken.lost taken.counts taken.made_for
    (λ closes few h. record { places = rw more.queues (omega (arith, h.places, more.capacity)); events = rw more.queues (omega (arith, h.events, taken.room)) })

pub returns-clause-memory : goal.returns-clause-memory
returns-clause-memory g c =
    let taken = c.in_ok-reserve.ensures in
    let more = c.in_ok-reserve-2.ensures in
    takes_some _ _ _ _ _ _ more.queues more.arrived more.comparisons more.capacity taken.events taken.sent taken.lost taken.counts taken.made_for
    (λ closes few h. record { places = rw more.queues (omega (arith, more.ok)); events = rw more.queues (omega (arith, few, taken.ok, c.waiting.ensures.value)) })
