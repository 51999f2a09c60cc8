use Rattle.std.proofs.Common.{◌≡◌, ℕ, ◌+◌, ◌<◌, ◌^◌, [], ◌∷◌, ◌++◌, ap, arith, length, refl, subst, sym, ◌∙◌}
use Rattle.journal_core.specs.declared.step.Admitted.{Admitted}
use Rattle.journal_core.proofs.RefusalLemmas.{enqueue_open}
use Rattle.sched_core.specs.Schedulers.{Scheduler, discipline_of}
use Rattle.queue_disc_core.specs.declared.answers.Enqueued.{Enqueued}
use Rattle.queue_disc_core.specs.QueueDiscKept.{disc_state_of}
use Rattle.queue_disc_core.specs.QueueDiscs.{IsDiscAccepted, DiscState}
use Rattle.queue_disc_core.proofs.Memory.{memory_accepts}
use Rattle.queue_disc_core.proofs.SoundSteps.{accept_sound}
use Rattle.queue_disc_core.proofs.QueueDiscSteps.{advanced_with_room}
use Rattle.queue_disc_core.proofs.StepDrops.{enqueue_settles}
use Rattle.queue_disc_core.proofs.queue_disc.QueueDisc.accept.Goals as goal

pub overflow_add-id : goal.overflow_add-id
overflow_add-id c =
    let old : Scheduler = c.self.inside.sched in
    let few : old.standing.state.next_id < 2 ^ 40 = (enqueue_open old.standing.state c.args.moment 0 c.args.packet c.in_ok-admitted.ensures.made.advances.fits).1 in
    omega (arith, few, c.self.invariant.few, ap (λ (a : Admitted). a.id) c.in_ok-admitted.ensures.admitted)

pub keep_room-requires : goal.keep_room-requires
keep_room-requires c =
    memory_accepts c.self.inside.sched c.enqueue.new.self c.args.moment c.args.packet c.has_laws-2.ensures.counted c.self.invariant.memory (c.in_ok-admitted.ensures.capacity c.self.invariant.reserved) c.in_ok-admitted.ensures.made

pub recent_drops-self-inside-requires : goal.recent_drops-self-inside-requires
recent_drops-self-inside-requires c =
    let memory = memory_accepts c.self.inside.sched c.enqueue.new.self c.args.moment c.args.packet c.has_laws-2.ensures.counted c.self.invariant.memory (c.in_ok-admitted.ensures.capacity c.self.invariant.reserved) c.in_ok-admitted.ensures.made in
    rw c.keep_room.ensures.rest (record { waits = memory.waits; recent = memory.recent; held = memory.held })

abbrev new_of : goal.After-accept → DiscState
new_of c = record {
  sched = c.keep_room.new.sched;
  unread = c.recent_drops-self-inside.result;
  flushed_counts = c.self.inside.flushed_counts;
  past = c.self.inside.past;
  renew_after = c.self.inside.renew_after;
  packets = c.accept.new.self;
}

abbrev said_of : goal.After-accept → Enqueued
said_of c = record {
  id = c.self.inside.past.accepted + c.in_ok-admitted.admitted.id;
  flow = c.in_ok-admitted.admitted.flow;
  drops = c.recent_drops-self-inside.result;
}

made_of : (c : goal.After-accept) → c.self.inside.unread ≡ 0 → IsDiscAccepted (disc_state_of c.self.inside) c.args.moment c.args.packet (said_of c) (new_of c)
made_of c read =
    let old : Scheduler = c.self.inside.sched in
    let new : Scheduler = c.keep_room.new.sched in
    let made = advanced_with_room c.in_ok-admitted.ensures.made c.keep_room.ensures.rest in
    let settles = enqueue_settles (discipline_of old) old.standing new.standing c.args.moment 0 c.args.packet made.advances in
    let id = ap (λ (a : Admitted). a.id) c.in_ok-admitted.ensures.admitted in
    record {
      advances = made;
      id = ap (λ (n : ℕ). c.self.inside.past.accepted + n) id;
      flow = ap (λ (a : Admitted). a.flow) c.in_ok-admitted.ensures.admitted;
      read = read;
      unread = refl;
      drops = omega (arith, settles.settled, c.recent_drops-self-inside.ensures.lost, c.drops_have_causes.ensures);
      room = omega (arith, c.in_ok-admitted.ensures.room, c.keep_room.ensures.room);
      reserved = c.keep_room.ensures.reserved;
      capacity = ap (λ (s : Scheduler). s.capacity) c.keep_room.ensures.rest ∙ c.in_ok-admitted.ensures.capacity c.self.invariant.reserved;
      rest = λ i. record (disc_state_of c.self.inside) {
        sched = new;
        unread = c.recent_drops-self-inside.result;
        packets = (c.accept.ensures ∙ (λ j. record c.self.inside.packets {
          accepted = c.self.inside.packets.accepted ++ record { tag = c.tag.ensures j; id = c.self.inside.past.accepted + c.in_ok-admitted.admitted.id } ∷ [];
        })) i;
      };
    }

pub invariant_of-self-2 : goal.invariant_of-self-2
invariant_of-self-2 c =
    let read : c.self.inside.unread ≡ 0 = subst (λ (t : DiscState). t.unread ≡ 0) (sym c.self.view_is) c.requires in
    accept_sound (disc_state_of c.self.inside) (new_of c) c.args.moment c.args.packet (said_of c) c.has_laws.ensures.laws c.has_laws-3.ensures.laws c.has_laws-3.ensures.counted c.self.invariant (made_of c read)

pub returns-clause-made : goal.returns-clause-made
returns-clause-made c =
    let read : c.self.inside.unread ≡ 0 = subst (λ (t : DiscState). t.unread ≡ 0) (sym c.self.view_is) c.requires in
    subst (λ (t : DiscState). IsDiscAccepted t c.args.moment c.args.packet (said_of c) (new_of c)) c.self.view_is (made_of c read)

pub returns-clause-id : goal.returns-clause-id
returns-clause-id c =
    let id = ap (λ (a : Admitted). a.id) c.in_ok-admitted.ensures.admitted in
    omega (arith, id, c.self.invariant.ids, ap (λ (t : DiscState). length t.packets.accepted) c.self.view_is)
