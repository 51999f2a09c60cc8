use Rattle.std.proofs.Common.{◌≡◌, ◌<◌, ap, sym, ◌∙◌, arith}
use Rattle.packet_core.specs.declared.params.ParamFields.{ParamFields}
use Rattle.queue_disc_core.specs.FreeEnqueues.{free_enqueues}
use Rattle.queue_disc_core.proofs.Memory.{few_wait}
use Rattle.queue_disc_core.proofs.QueueDiscCalls.{on_ok}
use Rattle.queue_disc_core.proofs.queue_disc.take_room.Goals as goal

pub overflow_sub-enqueues : goal.overflow_sub-enqueues
overflow_sub-enqueues c =
    omega (arith, few_wait c.args.sched.now c.has_laws.ensures.counted c.requires.memory, c.queued.ensures.value, c.limit.ensures.value, ap (λ (p : ParamFields). p.limit) c.params.ensures)

-- so many enqueues are reserved, and one at least
free : (c : goal.Else-prove) → (c.reserve-reserved.new.self.room ≡ free_enqueues c.args.sched.now) × (0 < c.reserve-reserved.new.self.room)
free c =
    let limit = c.limit.ensures.value ∙ ap (λ (p : ParamFields). p.limit) c.params.ensures in
    let waits = few_wait c.args.sched.now c.has_laws.ensures.counted c.requires.memory in
    let room = on_ok c.reserve-reserved.result (sym c.if-prove.ensures.value) c.reserve-reserved.ensures.ok in
    (omega (arith, waits, room, limit, c.requires.none, c.queued.ensures.value), omega (arith, waits, room, limit, c.requires.none, c.queued.ensures.value))

pub returns-clause-taken : goal.returns-clause-taken
returns-clause-taken c =
    let limit = c.limit.ensures.value ∙ ap (λ (p : ParamFields). p.limit) c.params.ensures in
    let s = c.args.sched.now in
    let waits = few_wait s c.has_laws.ensures.counted c.requires.memory in
    let capacity : c.reserve-reserved.new.self.capacity ≡ s.capacity =
    omega (arith, on_ok c.reserve-reserved.result (sym c.if-prove.ensures.value) c.reserve-reserved.ensures.capacity, waits, limit, c.requires.memory.held, c.queued.ensures.value) in
    c.reserve-reserved.ensures.rest ∙ (λ i. record s { room = (free c).0 i; capacity = capacity i })

pub returns-clause-reserved : goal.returns-clause-reserved
returns-clause-reserved c = (free c).1
