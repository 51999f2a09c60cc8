-- What holds of a queue disc holds after each call.
use Rattle.std.proofs.Common.{◌≡◌, ℕ, suc, ◌+◌, ◌-◌, ◌<◌, ◌≤◌, List, [], ◌∷◌, drop, drop-cons, get_or, length, map, sum_by, Option, Some, None, refl, ap, subst, sym, ◌∙◌, arith}
use Rattle.std.specs.Prelude.{IfSome, slice_get}
use Rattle.std.proofs.lemmas.List.{drop-map, length-append}
use Rattle.std.proofs.lemmas.Option.{get_or_from_slice_get, slice_get_within}
use Rattle.std.proofs.lemmas.List.Sums.{sum_by-append, sum_by-cons}
use Rattle.packet_core.specs.Packets.{PacketParts}
use Rattle.journal_core.specs.Losses.{IsOfAccepted, lost_packets}
use Rattle.journal_core.specs.State.{arrival}
use Rattle.journal_core.specs.Statistics.{statistics}
use Rattle.journal_core.specs.declared.step.Sent.{Sent}
use Rattle.journal_core.specs.declared.totals.Totals.{Totals}
use Rattle.journal_core.proofs.StepTotals.{adds_accepted, adds_closed, adds_sent}
use Rattle.sched_core.specs.Schedulers.{IsServed, Scheduler, discipline_of}
use Rattle.queue_disc_core.specs.declared.answers.Dequeued.{Dequeued}
use Rattle.queue_disc_core.specs.declared.answers.Dropped.{Dropped}
use Rattle.queue_disc_core.specs.declared.answers.Enqueued.{Enqueued}
use Rattle.queue_disc_core.specs.declared.answers.Handle.{Handle}
use Rattle.queue_disc_core.specs.declared.totals.FlushedCounts.{FlushedCounts}
use Rattle.queue_disc_core.specs.declared.totals.QueueDiscTotals.{QueueDiscTotals}
use Rattle.queue_disc_core.specs.Drops.{causes_of}
use Rattle.queue_disc_core.specs.Laws.{IsCounted, IsLawful}
use Rattle.queue_disc_core.specs.QueueDiscKept.{AreBalanced, IsSoundDisc}
use Rattle.queue_disc_core.specs.QueueDiscTotals.{HasGrown, IsFlushedWithin, more_flushed}
use Rattle.queue_disc_core.specs.QueueDiscs.{IsDiscAccepted, IsDiscClosed, IsDiscDequeued, IsFlushed, IsIdle, IsRead, DiscState, drop_handle, events_of, handle_of, lost_of, read_of, sent_handle, sent_handles, unread_packets}
use Rattle.queue_disc_core.proofs.Balanced.{balance_noted, gone_sum, sum_push, weighs}
use Rattle.queue_disc_core.proofs.DropCounts.{lost_counted}
use Rattle.queue_disc_core.proofs.Memory.{memory_accepts, memory_closes, memory_serves}
use Rattle.queue_disc_core.proofs.StepDrops.{close_settles, dequeue_settles, enqueue_settles}
use Rattle.queue_disc_core.proofs.StepMoves.{close_grows, close_loses, close_moves, enqueue_grows, enqueue_moves, idle_moves, sent_moves, served_grows}

-- each lost packet has its cause
pub caused : (s : Scheduler) → IsLawful s → length (lost_packets s.standing.events) ≡ length (causes_of s.standing.events)
caused s l = lost_counted (discipline_of s).flow_of s.standing.events l.laws

within_more : (flushed_counts : FlushedCounts) (old new : Totals) → IsFlushedWithin flushed_counts old → HasGrown old new → IsFlushedWithin flushed_counts new
within_more flushed_counts old new w g = record {
  packets = let a = w.packets in let b = g.sent in omega arith;
  bytes = let a = w.bytes in let b = g.bytes in omega arith;
  marked = let a = w.marked in let b = g.marked in omega arith;
  threshold_marked = let a = w.threshold_marked in let b = g.threshold_marked in omega arith;
}

flushed_more : (flushed_counts : FlushedCounts) (old new : Totals) → IsFlushedWithin flushed_counts old → HasGrown old new → IsFlushedWithin (more_flushed flushed_counts old new) new
flushed_more flushed_counts old new w g = record {
  packets = let a = w.packets in let b = g.sent in omega arith;
  bytes = let a = w.bytes in let b = g.bytes in omega arith;
  marked = let a = w.marked in let b = g.marked in omega arith;
  threshold_marked = let a = w.threshold_marked in let b = g.threshold_marked in omega arith;
}

pub accept_balanced : (old new : DiscState) (moment : ℕ) (packet : PacketParts) (said : Enqueued) → IsLawful old.sched → IsLawful new.sched → AreBalanced old → IsDiscAccepted old moment packet said new → AreBalanced new
accept_balanced old new moment packet said before after balanced a =
    let handle : Handle = record { tag = packet.tag; id = said.id } in
    let first = arrival old.sched.standing.state moment packet in
    let its : handle_of old.past.accepted first ≡ handle = λ i. record { tag = packet.tag; id = sym a.id i } in
    balance_noted old new (first ∷ []) [] balanced (record {
      before = before;
      after = after;
      moves = enqueue_moves old.sched new.sched moment packet before a.advances;
      read = omega (arith, a.read, a.unread, a.drops);
      ids = ap (λ (s : DiscState). s.past.accepted) a.rest;
      accepted = λ f. omega (arith, ap (λ (s : DiscState). sum_by f s.packets.accepted) a.rest, sum_push f old.packets.accepted handle, sum_by-cons (weighs old f) first [], ap f its);
      sent = λ f. omega (arith, ap (gone_sum f) a.rest);
    })

pub accept_sound : (old new : DiscState) (moment : ℕ) (packet : PacketParts) (said : Enqueued) → IsLawful old.sched → IsLawful new.sched → IsCounted new.sched → IsSoundDisc old → IsDiscAccepted old moment packet said new → IsSoundDisc new
accept_sound old new moment packet said before after counted s a =
    let handle : Handle = record { tag = packet.tag; id = said.id } in
    let settles = enqueue_settles (discipline_of old.sched) old.sched.standing new.sched.standing moment 0 packet a.advances.advances in
    let adds = adds_accepted (discipline_of old.sched) old.sched.standing new.sched.standing moment 0 packet a.advances.advances in
    let next : new.sched.standing.state.next_id ≡ old.sched.standing.state.next_id + 1 = a.advances.advances.makes.1.next_id in
    let lost_old = caused old.sched before in
    let lost_new = caused new.sched after in
    subst IsSoundDisc (sym a.rest)
    (record {
      readable = omega (arith, settles.settled, settles.more, lost_old, lost_new, a.drops, a.unread);
      counted = omega (arith, adds.accepted_more, s.counted, next);
      flushed_counts = within_more old.flushed_counts (statistics (events_of old)) (statistics (events_of new)) s.flushed_counts (enqueue_grows old.sched new.sched moment packet before a.advances);
      past = s.past;
      few = s.few;
      ids = omega (arith, length-append old.packets.accepted (handle ∷ []), s.ids, next);
      balanced = subst AreBalanced a.rest (accept_balanced old new moment packet said before after s.balanced a);
      memory = memory_accepts old.sched new.sched moment packet counted s.memory a.capacity a.advances;
      reserved = a.reserved;
    })

pub close_balanced : (old new : DiscState) (moment : ℕ) → IsLawful old.sched → IsLawful new.sched → AreBalanced old → IsDiscClosed old moment new → AreBalanced new
close_balanced old new moment before after balanced a =
    let same : length (lost_of new) ≡ length (lost_of old) = ap length (close_loses old.sched new.sched moment before a.advances) in
    balance_noted old new [] [] balanced (record {
      before = before;
      after = after;
      moves = close_moves old.sched new.sched moment before a.advances;
      read = omega (arith, same, ap (λ (s : DiscState). s.unread) a.rest);
      ids = ap (λ (s : DiscState). s.past.accepted) a.rest;
      accepted = λ f. omega (arith, ap (λ (s : DiscState). sum_by f s.packets.accepted) a.rest);
      sent = λ f. omega (arith, ap (gone_sum f) a.rest);
    })

pub close_sound : (old new : DiscState) (moment : ℕ) → IsLawful old.sched → IsLawful new.sched → IsSoundDisc old → IsDiscClosed old moment new → IsSoundDisc new
close_sound old new moment before after s a =
    let settles = close_settles (discipline_of old.sched) old.sched.standing new.sched.standing moment a.advances.advances in
    let adds = adds_closed (discipline_of old.sched) old.sched.standing new.sched.standing moment a.advances.advances in
    let next : new.sched.standing.state.next_id ≡ old.sched.standing.state.next_id = ap (λ t. t.next_id) a.advances.advances.makes.1.state in
    subst IsSoundDisc (sym a.rest)
    (record {
      readable = omega (arith, settles.settled, settles.more, s.readable);
      counted = omega (arith, adds.accepted_more, s.counted, next);
      flushed_counts = within_more old.flushed_counts (statistics (events_of old)) (statistics (events_of new)) s.flushed_counts (close_grows old.sched new.sched moment before a.advances);
      past = s.past;
      few = s.few;
      ids = omega (arith, s.ids, next);
      balanced = subst AreBalanced a.rest (close_balanced old new moment before after s.balanced a);
      memory = memory_closes old.sched new.sched moment s.memory a.capacity a.advances;
      reserved = omega (arith, s.reserved, a.room);
    })

-- the same drops were read
pub still_read : (lost lost' unread unread' : ℕ) → unread ≤ lost → unread' + lost ≡ unread + lost' → lost' - unread' ≡ lost - unread
still_read lost lost' unread unread' few more = omega arith

-- A dequeue of the scheduler, whose packet is noted.
pub served_balanced : (old new : DiscState) (moment : ℕ) (sent : Option Sent) → IsLawful old.sched → IsLawful new.sched → AreBalanced old → IsServed old.sched moment sent new.sched → IfSome sent (IsOfAccepted (events_of old))
    → read_of new ≡ read_of old → new.past.accepted ≡ old.past.accepted → new.packets.accepted ≡ old.packets.accepted
    → ((f : Handle → ℕ) → gone_sum f new ≡ gone_sum f old + sum_by f (sent_handles old.past.accepted sent)) → AreBalanced new
served_balanced old new moment None before after balanced s packet read ids accepted sent =
    balance_noted old new [] [] balanced (record {
      before = before;
      after = after;
      moves = idle_moves old.sched new.sched moment before s;
      read = read;
      ids = ids;
      accepted = λ f. omega (arith, ap (sum_by f) accepted);
      sent = sent;
    })
served_balanced old new moment (Some x) before after balanced s packet read ids accepted sent =
    let one = sent_moves old.sched new.sched moment x before s packet in
    let its : handle_of old.past.accepted one.waited ≡ sent_handle old.past.accepted x = λ i. record { tag = one.tag i; id = old.past.accepted + one.id i } in
    balance_noted old new [] (one.waited ∷ []) balanced (record {
      before = before;
      after = after;
      moves = one.moves;
      read = read;
      ids = ids;
      accepted = λ f. omega (arith, ap (sum_by f) accepted);
      sent = λ f. omega (arith, sent f, sum_by-cons f (sent_handle old.past.accepted x) [], sum_by-cons (weighs old f) one.waited [], ap f its);
    })

-- what holds but for the balance, after a dequeue of the scheduler
pub record Served (old : DiscState) (moment : ℕ) (sent : Option Sent) (new : DiscState) : Type 0 where
  pub before : IsLawful old.sched
  pub after : IsLawful new.sched
  pub serves : IsServed old.sched moment sent new.sched
  pub packet : IfSome sent (IsOfAccepted (events_of old))
  pub drops : new.unread + length (lost_of old) ≡ old.unread + length (lost_of new)
  pub past : new.past ≡ old.past
  pub accepted : new.packets.accepted ≡ old.packets.accepted
  pub flushed_counts : IsFlushedWithin new.flushed_counts (statistics (events_of new))
  pub gone : (f : Handle → ℕ) → gone_sum f new ≡ gone_sum f old + sum_by f (sent_handles old.past.accepted sent)

pub served_sound : (old new : DiscState) (moment : ℕ) (sent : Option Sent) → IsSoundDisc old → Served old moment sent new → IsSoundDisc new
served_sound old new moment sent s v =
    let g = v.serves.gives in
    let settles = dequeue_settles (discipline_of old.sched) old.sched.standing new.sched.standing moment sent g in
    let adds = adds_sent (discipline_of old.sched) old.sched.standing new.sched.standing moment sent g in
    let next : new.sched.standing.state.next_id ≡ old.sched.standing.state.next_id = g.serves.next_id in
    let lost_old = caused old.sched v.before in
    let lost_new = caused new.sched v.after in
    let p = v.past in
    let accepted : new.past.accepted ≡ old.past.accepted = ap (λ t. t.accepted) p in
    record {
      readable = omega (arith, settles.settled, settles.more, lost_old, lost_new, s.readable, v.drops);
      counted = omega (arith, adds.accepted_more, s.counted, next);
      flushed_counts = v.flushed_counts;
      past = subst (λ (t : QueueDiscTotals). t.accepted ≡ t.sent + t.dropped_codel + t.dropped_overflow + t.flushed) (sym p) s.past;
      few = omega (arith, accepted, s.few);
      ids = omega (arith, ap length v.accepted, s.ids, next, accepted);
      balanced = served_balanced old new moment sent v.before v.after s.balanced v.serves v.packet (still_read (length (lost_of old)) (length (lost_of new)) old.unread new.unread (omega (arith, lost_old, s.readable)) v.drops) accepted v.accepted v.gone;
      memory = memory_serves old.sched new.sched moment sent s.memory v.serves;
      reserved = omega (arith, s.reserved, v.serves.room);
    }

pub dequeue_sound : (old new : DiscState) (moment : ℕ) (said : Dequeued) → IsLawful old.sched → IsLawful new.sched → IsSoundDisc old → IsDiscDequeued old moment said new → IsSoundDisc new
dequeue_sound old new moment said before after s d =
    subst IsSoundDisc (sym d.rest)
    (served_sound old _ moment d.sent s (record {
      before = before;
      after = after;
      serves = d.serves;
      packet = d.packet;
      drops = omega (arith, d.unread, d.drops);
      past = refl;
      accepted = refl;
      flushed_counts = within_more old.flushed_counts (statistics (events_of old)) (statistics (events_of new)) s.flushed_counts (served_grows old.sched new.sched moment d.sent before d.serves);
      gone = λ f. omega (arith, sum_by-append f old.packets.sent (sent_handles old.past.accepted d.sent));
    }))

pub flush_sound : (old new : DiscState) (packet : Handle) → IsLawful old.sched → IsLawful new.sched → IsSoundDisc old → IsFlushed old packet new → IsSoundDisc new
flush_sound old new packet before after s d =
    subst IsSoundDisc (sym d.rest)
    (served_sound old _ old.sched.standing.state.last (Some d.sent) s (record {
      before = before;
      after = after;
      serves = d.serves;
      packet = d.accepted;
      drops = d.drops;
      past = refl;
      accepted = refl;
      flushed_counts = subst (λ (a : FlushedCounts). IsFlushedWithin a (statistics (events_of new))) (sym d.flushed_counts)
          (flushed_more old.flushed_counts (statistics (events_of old)) (statistics (events_of new)) s.flushed_counts (served_grows old.sched new.sched old.sched.standing.state.last (Some d.sent) before d.serves));
      gone = λ f. omega (arith, sum_push f old.packets.flushed packet, sum_by-cons f (sent_handle old.past.accepted d.sent) [], ap f d.handle);
    }))

pub idle_sound : (old new : DiscState) → IsLawful old.sched → IsLawful new.sched → IsSoundDisc old → IsIdle old new → IsSoundDisc new
idle_sound old new before after s d =
    subst IsSoundDisc (sym d.rest)
    (served_sound old _ old.sched.standing.state.last None s (record {
      before = before;
      after = after;
      serves = d.serves;
      packet = tt;
      drops = d.drops;
      past = refl;
      accepted = refl;
      flushed_counts = subst (λ (a : FlushedCounts). IsFlushedWithin a (statistics (events_of new))) (sym d.flushed_counts)
          (flushed_more old.flushed_counts (statistics (events_of old)) (statistics (events_of new)) s.flushed_counts (served_grows old.sched new.sched old.sched.standing.state.last None before d.serves));
      gone = λ f. omega arith;
    }))

-- the head of what is left is the element there
first_left : {X : Type 0} (xs : List X) (n : ℕ) (x : X) → slice_get xs n ≡ Some x → drop n xs ≡ x ∷ drop (n + 1) xs
first_left xs n x is =
    let within : n < length xs = slice_get_within xs n x is in
    let there : get_or xs n x ≡ x = get_or_from_slice_get xs n x x is in
    drop-cons xs n x within ∙ ap (λ y. y ∷ drop (suc n) xs) there ∙ ap (λ k. x ∷ drop k xs) (let e : suc n ≡ n + 1 = omega arith in e)

pub read_balanced : (old new : DiscState) (d : Dropped) → old.unread ≤ length (lost_of old) → AreBalanced old → IsRead old d new → AreBalanced new
read_balanced old new d few balanced r =
    let unread = r.unread in
    let all : List Handle = map (handle_of old.past.accepted) (lost_of old) in
    let number : length (lost_of old) - new.unread ≡ read_of old + 1 = omega arith in
    let here : drop (read_of old) all ≡ drop_handle d ∷ drop (read_of old + 1) all = first_left all (read_of old) (drop_handle d) r.drop.packet in
    let parted : (n : ℕ) → drop n all ≡ map (handle_of old.past.accepted) (drop n (lost_of old)) = λ n. drop-map (handle_of old.past.accepted) n (lost_of old) in
    subst AreBalanced (sym r.rest)
    (λ f.
    let was = balanced f in
    let a : sum_by f (unread_packets old) ≡ sum_by f (drop_handle d ∷ drop (read_of old + 1) all) = ap (sum_by f) (sym (parted (read_of old)) ∙ here) in
    let b = sum_by-cons f (drop_handle d) (drop (read_of old + 1) all) in
    let c : sum_by f (map (handle_of old.past.accepted) (drop (length (lost_of old) - new.unread) (lost_of old))) ≡ sum_by f (drop (read_of old + 1) all) =
    ap (λ n. sum_by f (map (handle_of old.past.accepted) (drop n (lost_of old)))) number ∙ ap (sum_by f) (sym (parted (read_of old + 1))) in
    omega (arith, sum_push f old.packets.read (drop_handle d)))

pub read_sound : (old new : DiscState) (d : Dropped) → IsLawful old.sched → IsSoundDisc old → IsRead old d new → IsSoundDisc new
read_sound old new d before s r =
    let unread = r.unread in
    let lost = caused old.sched before in
    let readable = s.readable in
    subst IsSoundDisc (sym r.rest)
    (record {
      readable = omega arith;
      counted = s.counted;
      flushed_counts = s.flushed_counts;
      past = s.past;
      few = s.few;
      ids = s.ids;
      balanced = subst AreBalanced r.rest (read_balanced old new d (omega arith) s.balanced r);
      memory = s.memory;
      reserved = s.reserved;
    })
