-- What memory a queue disc's scheduler has, as steps are made.
use Rattle.std.proofs.Common.{◌≡◌, ℕ, ◌+◌, ◌≤◌, List, [], ◌∷◌, length, Option, ap, sum_by, inl, inr, arith}
use Rattle.std.proofs.lemmas.Bool.{cases_lt}
use Rattle.packet_core.specs.Packets.{PacketParts}
use Rattle.packet_core.specs.declared.packet.Waiting.{Waiting}
use Rattle.packet_core.specs.declared.params.ParamFields.{ParamFields}
use Rattle.flow_core.specs.FlowLists.{waiting_in}
use Rattle.journal_core.specs.Disciplines.{Batch}
use Rattle.journal_core.specs.Losses.{lost_packets}
use Rattle.journal_core.specs.declared.outcome.Answer.TheVariants as answer
use Rattle.journal_core.specs.declared.step.Sent.{Sent}
use Rattle.journal_core.specs.declared.step.Step.TheVariants.{Close, Enqueue}
use Rattle.journal_core.proofs.StepTotals.{adds_accepted, adds_closed, adds_sent}
use Rattle.fair_core.specs.Overflow.{Overflow, without_batch}
use Rattle.sched_core.specs.Schedulers.{IsAdvanced, IsServed, Scheduler, discipline_of, flows_of}
use Rattle.queue_disc_core.specs.Drops.{settled_drops}
use Rattle.queue_disc_core.specs.Laws.{IsCounted, IsLawful}
use Rattle.queue_disc_core.specs.QueueDiscKept.{HasMemory}
use Rattle.queue_disc_core.proofs.DropCounts.{drops_counted, lost_counted}
use Rattle.queue_disc_core.proofs.StepDrops.{close_settles, dequeue_settles, enqueue_settles}

-- An overflow ends where no more packets wait than `limit`.
pub overflow_fits : (p : ParamFields) (queues : List (List Waiting)) (batches : List Batch) (queues' : List (List Waiting)) → Overflow p queues batches queues' → sum_by length queues' ≤ p.limit
overflow_fits p queues [] queues' o =
    elim (cases_lt p.limit (sum_by length queues)) [
      | inl many ↦ absurd (o.0 (inl many))
      | inr few ↦ rw o.1 few
    ]
overflow_fits p queues (batch ∷ more) queues' o = overflow_fits p (without_batch p.drop_batch queues batch.flow) more queues' o.3

-- No more packets wait than `limit`.
pub few_wait : (s : Scheduler) → IsCounted s → HasMemory s → waiting_in (flows_of s).lists ≤ s.params.limit
few_wait s counted h = omega (arith, h.waits, counted.balance, drops_counted s.standing.events, counted.queued)

-- There is memory for the drops since the last acceptance.
pub few_recent : (s : Scheduler) → IsLawful s → IsCounted s → HasMemory s → length (lost_packets s.standing.events) ≤ s.params.limit + 1 + settled_drops s.standing.events
few_recent s l counted h =
    omega (arith, h.recent, counted.balance, drops_counted s.standing.events, lost_counted (discipline_of s).flow_of s.standing.events l.laws)

-- a packet is accepted
pub memory_accepts : (old new : Scheduler) (moment : ℕ) (packet : PacketParts) → IsCounted new → HasMemory old → new.capacity ≡ old.capacity → IsAdvanced old (Enqueue moment 0 packet) answer.Accepted new → HasMemory new
memory_accepts old new moment packet counted h same a =
    let fits : waiting_in (flows_of new).lists ≤ old.params.limit = overflow_fits old.params _ _ _ a.advances.makes.1.queues.overflow in
    let settles = enqueue_settles (discipline_of old) old.standing new.standing moment 0 packet a.advances in
    let adds = adds_accepted (discipline_of old) old.standing new.standing moment 0 packet a.advances in
    let limit = ap (λ (p : ParamFields). p.limit) a.params in
    record {
      waits = omega (arith, counted.balance, drops_counted new.standing.events, counted.queued);
      recent = omega (arith, settles.settled, adds.accepted_more, adds.sent_more, h.waits);
      held = omega (arith, h.held, same, limit);
    }

-- a dequeue
pub memory_serves : (old new : Scheduler) (moment : ℕ) (sent : Option Sent) → HasMemory old → IsServed old moment sent new → HasMemory new
memory_serves old new moment sent h s =
    let settles = dequeue_settles (discipline_of old) old.standing new.standing moment sent s.gives in
    let adds = adds_sent (discipline_of old) old.standing new.standing moment sent s.gives in
    let limit = ap (λ (p : ParamFields). p.limit) s.params in
    record {
      waits = omega (arith, settles.more, adds.accepted_more, adds.sent_more, h.waits);
      recent = omega (arith, settles.settled, adds.accepted_more, adds.sent_more, h.recent);
      held = omega (arith, h.held, s.capacity, limit);
    }

-- a close
pub memory_closes : (old new : Scheduler) (moment : ℕ) → HasMemory old → new.capacity ≡ old.capacity → IsAdvanced old (Close moment) answer.Closed new → HasMemory new
memory_closes old new moment h same a =
    let settles = close_settles (discipline_of old) old.standing new.standing moment a.advances in
    let adds = adds_closed (discipline_of old) old.standing new.standing moment a.advances in
    let limit = ap (λ (p : ParamFields). p.limit) a.params in
    record {
      waits = omega (arith, settles.more, adds.accepted_more, adds.sent_more, h.waits);
      recent = omega (arith, settles.settled, adds.accepted_more, adds.sent_more, h.recent);
      held = omega (arith, h.held, same, limit);
    }
