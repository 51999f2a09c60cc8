use Rattle.std.proofs.Common.{◌+◌, ◌-◌, arith, refl, subst}
use Rattle.sched_core.specs.Schedulers.{Scheduler, discipline_of}
use Rattle.queue_disc_core.specs.declared.answers.Dequeued.{Dequeued}
use Rattle.queue_disc_core.specs.QueueDiscKept.{disc_state_of}
use Rattle.queue_disc_core.specs.QueueDiscs.{IsDiscDequeued, DiscState}
use Rattle.queue_disc_core.proofs.Memory.{memory_serves}
use Rattle.queue_disc_core.proofs.SoundSteps.{dequeue_sound}
use Rattle.queue_disc_core.proofs.QueueDiscCalls.{sent_accepted, sent_fits}
use Rattle.queue_disc_core.proofs.StepDrops.{dequeue_settles}
use Rattle.queue_disc_core.proofs.queue_disc.QueueDisc.dequeue.Goals as goal

pub recent_drops-before-requires : goal.recent_drops-before-requires
recent_drops-before-requires c = c.self.invariant.memory

pub recent_drops-requires : goal.recent_drops-requires
recent_drops-requires c = memory_serves c.self.inside.sched c.dequeue.new.self c.args.moment c.in_ok-sent.sent c.self.invariant.memory c.in_ok-sent.ensures.made

pub overflow_sub-drops : goal.overflow_sub-drops
overflow_sub-drops c =
    let old : Scheduler = c.self.inside.sched in
    let settles = dequeue_settles (discipline_of old) old.standing c.dequeue.new.self.standing c.args.moment c.in_ok-sent.sent c.in_ok-sent.ensures.made.gives in
    omega (arith, settles.more, settles.settled, c.recent_drops.ensures.causes, c.recent_drops-before.ensures.causes)

pub give-requires : goal.give-requires
give-requires c =
    let old : Scheduler = c.self.inside.sched in
    let accepted = sent_accepted old c.dequeue.new.self c.args.moment c.in_ok-sent.sent c.has_laws.ensures.laws c.in_ok-sent.ensures.made in
    sent_fits c.self.inside.past.accepted old c.in_ok-sent.sent c.has_laws.ensures.laws accepted c.self.invariant.counted c.has_laws.ensures.ids c.self.invariant.few

abbrev new_of : goal.After-give → DiscState
new_of c = record {
  sched = c.dequeue.new.self;
  unread = c.self.inside.unread + (c.recent_drops.result - c.recent_drops-before.result);
  flushed_counts = c.self.inside.flushed_counts;
  past = c.self.inside.past;
  renew_after = c.self.inside.renew_after;
  packets = c.give.new.packets;
}

abbrev said_of : goal.After-give → Dequeued
said_of c = record { sent = c.give.result; drops = c.recent_drops.result - c.recent_drops-before.result }

made_of : (c : goal.After-give) → IsDiscDequeued (disc_state_of c.self.inside) c.args.moment (said_of c) (new_of c)
made_of c =
    let old : Scheduler = c.self.inside.sched in
    let new : Scheduler = c.dequeue.new.self in
    let settles = dequeue_settles (discipline_of old) old.standing new.standing c.args.moment c.in_ok-sent.sent c.in_ok-sent.ensures.made.gives in
    record {
      sent = c.in_ok-sent.sent;
      serves = c.in_ok-sent.ensures.made;
      packet = sent_accepted old new c.args.moment c.in_ok-sent.sent c.has_laws.ensures.laws c.in_ok-sent.ensures.made;
      told = c.give.ensures.told;
      unread = refl;
      drops = omega (arith, settles.more, settles.settled, c.recent_drops.ensures.lost, c.recent_drops-before.ensures.lost, c.recent_drops.ensures.causes, c.recent_drops-before.ensures.causes);
      rest = λ i. record (disc_state_of c.self.inside) {
        sched = new;
        unread = c.self.inside.unread + (c.recent_drops.result - c.recent_drops-before.result);
        packets = c.give.ensures.packets i;
      };
    }

pub invariant_of-self-2 : goal.invariant_of-self-2
invariant_of-self-2 c =
    dequeue_sound (disc_state_of c.self.inside) (new_of c) c.args.moment (said_of c) c.has_laws.ensures.laws c.has_laws-2.ensures.laws c.self.invariant (made_of c)

pub returns-clause-made : goal.returns-clause-made
returns-clause-made c = subst (λ (t : DiscState). IsDiscDequeued t c.args.moment (said_of c) (new_of c)) c.self.view_is (made_of c)
