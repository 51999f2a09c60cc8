use Rattle.std.proofs.Common.{◌≡◌, ◌+◌, ◌-◌, arith, refl, subst, sym, ◌∙◌}
use Rattle.std.specs.Prelude.{Option}
use Rattle.queue_disc_core.specs.declared.answers.Handle.{Handle}
use Rattle.journal_core.specs.Statistics.{statistics}
use Rattle.sched_core.specs.Schedulers.{Scheduler, discipline_of}
use Rattle.queue_disc_core.specs.QueueDiscKept.{disc_state_of}
use Rattle.queue_disc_core.specs.QueueDiscTotals.{more_flushed}
use Rattle.queue_disc_core.specs.QueueDiscs.{FlushesOne, KeepsSent, DiscState, flushed_by, totals_of}
use Rattle.queue_disc_core.proofs.QueueDiscCalls.{kept_sent, one_sound, sent_accepted, sent_fits, taken_one}
use Rattle.queue_disc_core.proofs.Memory.{memory_serves}
use Rattle.queue_disc_core.proofs.StepDrops.{dequeue_settles}
use Rattle.queue_disc_core.proofs.StepMoves.{served_grows}
use Rattle.queue_disc_core.proofs.queue_disc.QueueDisc.flush_next.Goals as goal

pub recent_drops-drops-requires : goal.recent_drops-drops-requires
recent_drops-drops-requires c = c.self.invariant.memory

pub recent_drops-requires : goal.recent_drops-requires
recent_drops-requires c =
    memory_serves c.self.inside.sched c.dequeue_at_last-sent.new.sched c.self.inside.sched.standing.state.last c.dequeue_at_last-sent.result c.self.invariant.memory c.dequeue_at_last-sent.ensures

pub overflow_sub-self : goal.overflow_sub-self
overflow_sub-self c =
    let old : Scheduler = c.self.inside.sched in
    let settles = dequeue_settles (discipline_of old) old.standing c.dequeue_at_last-sent.new.sched.standing old.standing.state.last c.dequeue_at_last-sent.result c.dequeue_at_last-sent.ensures.gives in
    omega (arith, settles.more, settles.settled, c.recent_drops.ensures.causes, c.recent_drops-drops.ensures.causes)

pub and-self-inside-requires-clause-grown : goal.and-self-inside-requires-clause-grown
and-self-inside-requires-clause-grown c =
    let old : Scheduler = c.self.inside.sched in
    rw (c.totals-before.ensures.value, c.totals-after.ensures.value)
    (served_grows old c.dequeue_at_last-sent.new.sched old.standing.state.last c.dequeue_at_last-sent.result c.has_laws.ensures.laws c.dequeue_at_last-sent.ensures)

pub take_out-requires : goal.take_out-requires
take_out-requires c =
    let old : Scheduler = c.self.inside.sched in
    let accepted = sent_accepted old c.dequeue_at_last-sent.new.sched old.standing.state.last c.dequeue_at_last-sent.result c.has_laws.ensures.laws c.dequeue_at_last-sent.ensures in
    sent_fits c.self.inside.past.accepted old c.dequeue_at_last-sent.result c.has_laws.ensures.laws accepted c.self.invariant.counted c.has_laws.ensures.ids c.self.invariant.few

abbrev new_of : goal.After-take_out → DiscState
new_of c = record {
  sched = c.dequeue_at_last-sent.new.sched;
  unread = c.self.inside.unread + (c.recent_drops.result - c.recent_drops-drops.result);
  flushed_counts = c.and-self-inside.result;
  past = c.self.inside.past;
  renew_after = c.self.inside.renew_after;
  packets = c.take_out.new.packets;
}

flushed_counts_of : (c : goal.After-take_out) → (new_of c).flushed_counts ≡ more_flushed c.self.inside.flushed_counts (statistics c.self.inside.sched.standing.events) (statistics c.dequeue_at_last-sent.new.sched.standing.events)
flushed_counts_of c = c.and-self-inside.ensures ∙ (λ i. more_flushed c.self.inside.flushed_counts (c.totals-before.ensures.value i) (c.totals-after.ensures.value i))

one_of : (c : goal.After-take_out) → FlushesOne (disc_state_of c.self.inside) c.take_out.result (new_of c)
one_of c =
    let old : Scheduler = c.self.inside.sched in
    let new : Scheduler = c.dequeue_at_last-sent.new.sched in
    let settles = dequeue_settles (discipline_of old) old.standing new.standing old.standing.state.last c.dequeue_at_last-sent.result c.dequeue_at_last-sent.ensures.gives in
    subst (λ (o : Option Handle). FlushesOne (disc_state_of c.self.inside) o (new_of c)) (sym c.take_out.ensures.told)
    (taken_one (disc_state_of c.self.inside) (new_of c) c.dequeue_at_last-sent.result c.dequeue_at_last-sent.ensures
    (sent_accepted old new old.standing.state.last c.dequeue_at_last-sent.result c.has_laws.ensures.laws c.dequeue_at_last-sent.ensures)
    (omega (arith, settles.more, settles.settled, c.recent_drops.ensures.lost, c.recent_drops-drops.ensures.lost, c.recent_drops.ensures.causes, c.recent_drops-drops.ensures.causes))
    (flushed_counts_of c)
    (λ i. record (new_of c) { packets = c.take_out.ensures.packets i }))

pub invariant_of-self : goal.invariant_of-self
invariant_of-self c = one_sound (disc_state_of c.self.inside) (new_of c) c.take_out.result c.has_laws.ensures.laws c.has_laws-2.ensures.laws c.self.invariant (one_of c)

pub returns-clause-one : goal.returns-clause-one
returns-clause-one c = subst (λ (t : DiscState). FlushesOne t c.take_out.result (new_of c)) c.self.view_is (one_of c)

pub returns-clause-totals : goal.returns-clause-totals
returns-clause-totals c =
    let kept = kept_sent (disc_state_of c.self.inside) (new_of c) c.dequeue_at_last-sent.result c.has_laws.ensures.laws c.self.invariant c.dequeue_at_last-sent.ensures (flushed_counts_of c) refl in
    subst (λ (t : DiscState). KeepsSent (totals_of t) (flushed_by c.take_out.result) (totals_of (new_of c))) c.self.view_is
    (subst (λ (o : Option Handle). KeepsSent (totals_of (disc_state_of c.self.inside)) (flushed_by o) (totals_of (new_of c))) (sym c.take_out.ensures.told) kept)
