use Rattle.std.proofs.Common.{None, Some, refl}
use Rattle.fair_core.specs.Turns.{service_in}
use Rattle.sched_core.specs.EnqueueRooms.{room_of}
use Rattle.sched_core.proofs.KeptScheduler.{few_served, is_served, kept_counted, kept_made_for, kept_serves, room_for_sent, told_none, told_some}
use Rattle.sched_core.proofs.sched.Sched.serve.Goals as goal

pub invariant_of-self : goal.invariant_of-self
invariant_of-self g c =
    let s = c.self.inside in
    record {
      book = kept_serves s.params s.seed (record s.fair_queue { comparisons = 0 }) c.serve-serving.new.self s.journal c.serve-serving.new.journal s.last_moment c.args.moment c.serve-serving.result.turns s.enqueue_room.enqueues s.is_closed None
          (rw (c.clear_comparisons.ensures, c.in_default.is) at c.serve-serving.ensures.chain) (rw c.clear_comparisons.ensures at c.serve-serving.ensures.arrived) (rw c.clear_comparisons.ensures at c.serve-serving.ensures.capacity)
          (rw (← c.self.view_is) at c.requires) (kept_counted s.params s.seed s.fair_queue s.journal s.last_moment s.enqueue_room.enqueues 0 s.is_closed c.self.invariant.book);
      classifier = c.self.invariant.classifier;
      made_for = kept_made_for s.params.limit (rw (c.clear_comparisons.ensures, c.in_default.is) at c.serve-serving.ensures.chain) c.self.invariant.made_for;
    }

pub returns-in_default-clause-made : goal.returns-in_default-clause-made
returns-in_default-clause-made g c =
    let s = c.self.inside in
    let chain = rw (c.clear_comparisons.ensures, c.in_default.is) at c.serve-serving.ensures.chain in
    rw (← c.self.view_is, told_none s.params s.seed c.args.moment (service_in chain.turns) chain.answered.given)
    (is_served s.params s.seed (record s.fair_queue { comparisons = 0 }) c.serve-serving.new.self s.journal c.serve-serving.new.journal s.last_moment c.args.moment s.turns c.serve-serving.result.turns s.fair_queue.comparisons c.serve-serving.new.self.comparisons (room_of s.enqueue_room) s.is_closed None
    chain (rw c.clear_comparisons.ensures at c.serve-serving.ensures.arrived) (rw c.clear_comparisons.ensures at c.serve-serving.ensures.capacity) (rw c.clear_comparisons.ensures at c.serve-serving.ensures.sound) c.serve-serving.ensures.quantum c.self.invariant.book.credits (rw (← c.self.view_is) at c.requires))

pub send-requires : goal.send-requires
send-requires g c =
    let s = c.self.inside in
    room_for_sent s.params s.seed (record s.fair_queue { comparisons = 0 }) c.serve-serving.new.self s.journal c.serve-serving.new.journal s.last_moment c.args.moment c.serve-serving.result.turns s.enqueue_room.enqueues s.is_closed c.in-Some.served
    (rw (c.clear_comparisons.ensures, c.in-Some.is) at c.serve-serving.ensures.chain) (kept_counted s.params s.seed s.fair_queue s.journal s.last_moment s.enqueue_room.enqueues 0 s.is_closed c.self.invariant.book)

pub invariant_of-self-2 : goal.invariant_of-self-2
invariant_of-self-2 g c =
    let s = c.self.inside in
    record {
      book = rw c.send.ensures
          (kept_serves s.params s.seed (record s.fair_queue { comparisons = 0 }) c.serve-serving.new.self s.journal c.serve-serving.new.journal s.last_moment c.args.moment c.serve-serving.result.turns s.enqueue_room.enqueues s.is_closed (Some c.in-Some.served)
          (rw (c.clear_comparisons.ensures, c.in-Some.is) at c.serve-serving.ensures.chain) (rw c.clear_comparisons.ensures at c.serve-serving.ensures.arrived) (rw c.clear_comparisons.ensures at c.serve-serving.ensures.capacity)
          (rw (← c.self.view_is) at c.requires) (kept_counted s.params s.seed s.fair_queue s.journal s.last_moment s.enqueue_room.enqueues 0 s.is_closed c.self.invariant.book));
      classifier = c.self.invariant.classifier;
      made_for = rw c.send.ensures (kept_made_for s.params.limit (rw (c.clear_comparisons.ensures, c.in-Some.is) at c.serve-serving.ensures.chain) c.self.invariant.made_for);
    }

pub returns-clause-made : goal.returns-clause-made
returns-clause-made g c =
    let s = c.self.inside in
    let chain = rw (c.clear_comparisons.ensures, c.in-Some.is) at c.serve-serving.ensures.chain in
    rw (← c.self.view_is, c.send.ensures, c.sent_of-sent.ensures, told_some s.params s.seed c.args.moment (service_in chain.turns) c.in-Some.served chain.answered.given)
    (is_served s.params s.seed (record s.fair_queue { comparisons = 0 }) c.serve-serving.new.self s.journal c.serve-serving.new.journal s.last_moment c.args.moment s.turns c.serve-serving.result.turns s.fair_queue.comparisons c.serve-serving.new.self.comparisons (room_of s.enqueue_room) s.is_closed (Some c.in-Some.served)
    chain (rw c.clear_comparisons.ensures at c.serve-serving.ensures.arrived) (rw c.clear_comparisons.ensures at c.serve-serving.ensures.capacity) (rw c.clear_comparisons.ensures at c.serve-serving.ensures.sound) c.serve-serving.ensures.quantum c.self.invariant.book.credits (rw (← c.self.view_is) at c.requires))

pub returns-in_default-clause-few_comparisons : goal.returns-in_default-clause-few_comparisons
returns-in_default-clause-few_comparisons g c =
    let s = c.self.inside in
    rw (← c.self.view_is)
    (few_served s.params s.seed (record s.fair_queue { comparisons = 0 }) c.serve-serving.new.self s.journal c.serve-serving.new.journal s.last_moment c.args.moment s.turns c.serve-serving.result.turns s.fair_queue.comparisons (room_of s.enqueue_room) s.is_closed None
    (rw (c.clear_comparisons.ensures, c.in_default.is) at c.serve-serving.ensures.chain) c.self.invariant.book.flows refl)

pub returns-clause-few_comparisons : goal.returns-clause-few_comparisons
returns-clause-few_comparisons g c =
    let s = c.self.inside in
    rw (← c.self.view_is, c.send.ensures)
    (few_served s.params s.seed (record s.fair_queue { comparisons = 0 }) c.serve-serving.new.self s.journal c.serve-serving.new.journal s.last_moment c.args.moment s.turns c.serve-serving.result.turns s.fair_queue.comparisons (room_of s.enqueue_room) s.is_closed (Some c.in-Some.served)
    (rw (c.clear_comparisons.ensures, c.in-Some.is) at c.serve-serving.ensures.chain) c.self.invariant.book.flows refl)
