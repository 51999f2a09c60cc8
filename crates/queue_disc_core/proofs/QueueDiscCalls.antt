-- What the calls of a queue disc say.
use Rattle.std.proofs.Common.{◌≡◌, ◌≢◌, ℕ, ◌+◌, ◌-◌, ◌<◌, ◌≤◌, ◌^◌, ◌⊎◌, Bool, true, false, List, ◌++◌, length, map, sum_by, Option, Some, None, option_map, Result, Ok, Err, IsSomeAnd, refl, ap, subst, sym, ◌∙◌, inl, inr, arith, append-nil}
use Rattle.std.specs.Prelude.{IfErr, IfOk, IfSome, OnErr, OnOk, is_ok}
use Rattle.std.proofs.lemmas.List.Sums.{sum_by-append}
use Rattle.packet_core.specs.Packets.{PacketParts}
use Rattle.packet_core.specs.declared.flow.Seed.{Seed}
use Rattle.packet_core.specs.declared.params.ParamFields.{ParamFields}
use Rattle.codel_core.specs.Verdict.{sent_ecn}
use Rattle.fair_core.specs.FairQueues.{queue_of}
use Rattle.journal_core.specs.Happened.{Acceptance, acceptances, named}
use Rattle.journal_core.specs.JournalLaws.{IdsInOrder}
use Rattle.journal_core.specs.Losses.{IsOfAccepted}
use Rattle.journal_core.specs.State.{IsRefusal, refusal_of}
use Rattle.journal_core.specs.Statistics.{statistics}
use Rattle.journal_core.specs.declared.event.Event.{Event}
use Rattle.journal_core.specs.declared.step.Refusal.{Refusal}
use Rattle.journal_core.specs.declared.step.Sent.{Sent}
use Rattle.journal_core.specs.declared.step.Step.TheVariants.{Enqueue}
use Rattle.journal_core.specs.declared.totals.Totals.{Totals}
use Rattle.journal_core.proofs.KnownPackets.{answers_accepted}
use Rattle.journal_core.proofs.StepTotals.{adds_sent, given_count}
use Rattle.sched_core.specs.Schedulers.{IsServed, Scheduler, discipline_of}
use Rattle.sched_core.proofs.KeptScheduler.{fifo}
use Rattle.queue_disc_core.specs.declared.answers.Enqueued.{Enqueued}
use Rattle.queue_disc_core.specs.declared.answers.Handle.{Handle}
use Rattle.queue_disc_core.specs.declared.totals.FlushedCounts.{FlushedCounts}
use Rattle.queue_disc_core.specs.declared.totals.QueueDiscTotals.{QueueDiscTotals}
use Rattle.queue_disc_core.specs.Laws.{IsLawful}
use Rattle.queue_disc_core.specs.PacketLists.{Packets, no_packets_yet}
use Rattle.queue_disc_core.specs.QueueDiscKept.{AreBalanced, IsSoundDisc}
use Rattle.queue_disc_core.specs.QueueDiscTotals.{HasGrown, IsFlushedWithin, capped, more_flushed, no_totals, nothing_flushed, totals_by}
use Rattle.queue_disc_core.specs.QueueDiscs.{AreGivenBack, FlushesOne, IsDiscAccepted, IsDue, IsEnqueued, KeepsSent, DiscState, events_of, flushed_by, handle_of, lost_of, new_disc, open_scheduler, renewed, sent_handle, sent_handles, totals_of, unread_packets, unrenewed, waiting_packets}
use Rattle.queue_disc_core.proofs.CallLaws.{tells_handles, same_handle}
use Rattle.queue_disc_core.proofs.Handles.{named_is}
use Rattle.queue_disc_core.proofs.Multisets.{same_sums}
use Rattle.queue_disc_core.proofs.Refusals.{first_fits, may_come}
use Rattle.queue_disc_core.proofs.Renewals.{none_queued}
use Rattle.queue_disc_core.proofs.SoundSteps.{flush_sound, idle_sound}
use Rattle.queue_disc_core.proofs.StepMoves.{served_grows}

new_sound : (p : ParamFields) (seed : Seed) (n : ℕ) → IsSoundDisc (new_disc p seed n)
new_sound p seed n = record {
  readable = omega arith;
  counted = refl;
  flushed_counts = record { packets = omega arith; bytes = omega arith; marked = omega arith; threshold_marked = omega arith };
  past = omega arith;
  few = omega arith;
  ids = refl;
  balanced = λ f. let none = ap (λ ws. sum_by f (map (handle_of 0) ws)) (none_queued p.flows) in omega arith;
  memory = record { waits = omega arith; recent = omega arith; held = omega arith };
  reserved = omega arith;
}

-- A queue disc that is opened.
pub opened : (sched : Scheduler) (flushed_counts : FlushedCounts) (past : QueueDiscTotals) (packets : Packets) (n : ℕ) (p : ParamFields) (seed : Seed) → sched ≡ open_scheduler p seed → flushed_counts ≡ nothing_flushed → past ≡ no_totals → packets ≡ no_packets_yet
    → IsSoundDisc (record { sched = sched; unread = 0; flushed_counts = flushed_counts; past = past; renew_after = n; packets = packets })
opened sched flushed_counts past packets n p seed a b c d =
    subst IsSoundDisc (λ i. record { sched = sym a i; unread = 0; flushed_counts = sym b i; past = sym c i; renew_after = n; packets = sym d i }) (new_sound p seed n)

-- What is in balance is the same but for its order.
pub come_back : (s : DiscState) → AreBalanced s → AreGivenBack s
come_back s balanced =
    let p = s.packets in
    same_sums same_handle tells_handles p.accepted (p.sent ++ p.read ++ p.flushed ++ unread_packets s ++ waiting_packets s)
    (λ f. omega (arith, balanced f, sum_by-append f (p.sent ++ p.read ++ p.flushed ++ unread_packets s) (waiting_packets s), sum_by-append f (p.sent ++ p.read ++ p.flushed) (unread_packets s), sum_by-append f (p.sent ++ p.read) p.flushed, sum_by-append f p.sent p.read))

-- What a dequeue gives was accepted.
pub sent_accepted : (old new : Scheduler) (moment : ℕ) (sent : Option Sent) → IsLawful old → IsServed old moment sent new → IfSome sent (IsOfAccepted old.standing.events)
sent_accepted old new moment None l s = tt
sent_accepted old new moment (Some x) l s = answers_accepted (discipline_of old) queue_of (fifo old.params old.seed) old.standing new.standing moment x l.laws.ids_in_order l.waiting s.gives

sent_below : (events : List Event) (x : Sent) → IdsInOrder events → IsOfAccepted events x → x.id < length (acceptances events)
sent_below events x ids accepted = of_found (named (acceptances events) x.id) refl accepted
  where
    of_found : (o : Option Acceptance) → named (acceptances events) x.id ≡ o → IsSomeAnd o (λ a. x.packet ≡ record a.packet { ecn = sent_ecn x.mark a.packet.ecn }) → x.id < length (acceptances events)
    of_found None e h = absurd h
    of_found (Some a) e h = let of_id = named_is (acceptances events) x.id a (length (acceptances events)) ids e in omega (arith, of_id.0, of_id.1)

-- Its id over all schedulers fits.
pub sent_fits : (before : ℕ) (s : Scheduler) (sent : Option Sent) → IsLawful s → IfSome sent (IsOfAccepted s.standing.events) → (statistics s.standing.events).accepted ≡ s.standing.state.next_id
    → s.standing.state.next_id ≤ 2 ^ 40 → before ≤ 2 ^ 63 → IfSome sent (λ x. before + x.id < 2 ^ 64)
sent_fits before s None l accepted counted few early = tt
sent_fits before s (Some x) l accepted counted few early = omega (arith, sent_below s.standing.events x l.laws.ids_in_order accepted, counted, few, early)

-- The packet that a flush takes out.
pub taken_one : (old new : DiscState) (sent : Option Sent) → IsServed old.sched old.sched.standing.state.last sent new.sched → IfSome sent (IsOfAccepted (events_of old)) → new.unread + length (lost_of old) ≡ old.unread + length (lost_of new)
    → new.flushed_counts ≡ more_flushed old.flushed_counts (statistics (events_of old)) (statistics (events_of new))
    → new ≡ record old { sched = new.sched; unread = new.unread; flushed_counts = new.flushed_counts; packets = record old.packets { flushed = old.packets.flushed ++ sent_handles old.past.accepted sent } }
    → FlushesOne old (option_map (sent_handle old.past.accepted) sent) new
taken_one old new None serves accepted drops flushed_counts rest = record {
  serves = serves;
  drops = drops;
  flushed_counts = flushed_counts;
  rest = rest ∙ (λ i. record old { sched = new.sched; unread = new.unread; flushed_counts = new.flushed_counts; packets = record old.packets { flushed = append-nil old.packets.flushed i } });
}
taken_one old new (Some x) serves accepted drops flushed_counts rest = record {
  sent = x;
  serves = serves;
  accepted = accepted;
  handle = refl;
  drops = drops;
  flushed_counts = flushed_counts;
  rest = rest;
}

pub one_sound : (old new : DiscState) (o : Option Handle) → IsLawful old.sched → IsLawful new.sched → IsSoundDisc old → FlushesOne old o new → IsSoundDisc new
one_sound old new None before after s one = idle_sound old new before after s one
one_sound old new (Some packet) before after s one = flush_sound old new packet before after s one

cancels : (a s s' : ℕ) → a ≤ s → s ≤ s' → s' - (a + (s' - s)) ≡ s - a
cancels a s s' within grown = omega arith

counts_one : (before : ℕ) (sent : Option Sent) → flushed_by (option_map (sent_handle before) sent) ≡ given_count sent
counts_one before None = refl
counts_one before (Some x) = refl

kept_flushed : (past : QueueDiscTotals) (old new : Totals) (flushed_counts : FlushedCounts) (n : ℕ) → IsFlushedWithin flushed_counts old → HasGrown old new → new.accepted ≡ old.accepted → new.sent ≡ old.sent + n
    → KeepsSent (totals_by past old flushed_counts) n (totals_by past new (more_flushed flushed_counts old new))
kept_flushed past old new flushed_counts n w g accepted sent = record {
  accepted = omega (arith, accepted);
  sent = ap (λ k. past.sent + k) (cancels flushed_counts.packets old.sent new.sent w.packets g.sent);
  sent_bytes = ap (λ k. capped (past.sent_bytes + k)) (cancels flushed_counts.bytes old.sent_bytes new.sent_bytes w.bytes g.bytes);
  marked = ap (λ k. capped (past.marked + k)) (cancels flushed_counts.marked old.marked new.marked w.marked g.marked);
  threshold_marked = ap (λ k. capped (past.threshold_marked + k)) (cancels flushed_counts.threshold_marked old.threshold_marked new.threshold_marked w.threshold_marked g.threshold_marked);
  flushed = omega (arith, sent, w.packets);
}

-- A flush leaves the statistics of what was sent.
pub kept_sent : (old new : DiscState) (sent : Option Sent) → IsLawful old.sched → IsSoundDisc old → IsServed old.sched old.sched.standing.state.last sent new.sched
    → new.flushed_counts ≡ more_flushed old.flushed_counts (statistics (events_of old)) (statistics (events_of new)) → new.past ≡ old.past
    → KeepsSent (totals_of old) (flushed_by (option_map (sent_handle old.past.accepted) sent)) (totals_of new)
kept_sent old new sent before s serves flushed_counts past =
    let was = statistics (events_of old) in
    let now = statistics (events_of new) in
    let adds = adds_sent (discipline_of old.sched) old.sched.standing new.sched.standing old.sched.standing.state.last sent serves.gives in
    let n : ℕ = flushed_by (option_map (sent_handle old.past.accepted) sent) in
    let literal : KeepsSent (totals_of old) n (totals_by old.past now (more_flushed old.flushed_counts was now)) =
    kept_flushed old.past was now old.flushed_counts n s.flushed_counts (served_grows old.sched new.sched old.sched.standing.state.last sent before serves) (omega (arith, adds.accepted_more)) (omega (arith, adds.sent_more, counts_one old.past.accepted sent)) in
    let with_flushed : KeepsSent (totals_of old) n (totals_by old.past now new.flushed_counts) = subst (λ (a : FlushedCounts). KeepsSent (totals_of old) n (totals_by old.past now a)) (sym flushed_counts) literal in
    subst (λ (t : QueueDiscTotals). KeepsSent (totals_of old) n (totals_by t now new.flushed_counts)) (sym past) with_flushed

-- An enqueue without a renewal.
pub made_plain : (old : DiscState) (moment : ℕ) (packet : PacketParts) (new : DiscState) (r : Result Enqueued Refusal)
    → (IsDue old → moment < 2 ^ 60 → old.sched.standing.state.last ≤ moment → ⊥)
    → IfOk r (λ said. refusal_of old.sched.standing.state (Enqueue moment 0 packet) ≡ None)
    → IfOk r (λ said. IsDiscAccepted old moment packet said new) → IfOk r (λ said. IsEnqueued old moment packet said new)
made_plain old moment packet new (Ok said) never fits made =
    let may = may_come old moment packet fits in
    record { ready = old; renewal = inl ((λ due. never due may.soon may.later), refl); accepts = made }
made_plain old moment packet new (Err e) never fits made = tt

-- What is noted of a renewal that wasn't made leaves an acceptance as it is.
accepted_unrenewed : (old : DiscState) (moment : ℕ) (packet : PacketParts) (said : Enqueued) (new : DiscState) → IsDiscAccepted old moment packet said new
    → IsDiscAccepted (unrenewed old moment) moment packet said (unrenewed new moment)
accepted_unrenewed old moment packet said new a = record {
  advances = a.advances;
  id = a.id;
  flow = a.flow;
  read = a.read;
  unread = a.unread;
  drops = a.drops;
  room = a.room;
  reserved = a.reserved;
  capacity = a.capacity;
  rest = ap (λ (s : DiscState). unrenewed s moment) a.rest;
}

-- A queue disc is as it was or renewed.
pub ready_by : (old mid : DiscState) (renewal : Bool) → (renewal ≡ true → mid ≡ renewed old) → (renewal ≡ false → mid ≡ old) → (mid ≡ old) ⊎ (mid ≡ renewed old)
ready_by old mid true made refused = inr (made refl)
ready_by old mid false made refused = inl (refused refl)

-- Where a renewal was due it was made, or the moment is noted.
-- What is said of a call that answers Ok holds where it answered so, and what is said of one that answers Err too.
pub on_ok : {A E X : Type 0} (r : Result A E) → is_ok r ≡ true → OnOk r X → X
on_ok (Ok a) good said = said
on_ok (Err e) good said = absurd cc

pub on_err : {A E X : Type 0} (r : Result A E) → is_ok r ≡ false → OnErr r X → X
on_err (Ok a) bad said = absurd cc
on_err (Err e) bad said = said

pub noted : (old mid after new : DiscState) (moment : ℕ) (packet : PacketParts) (said : Enqueued) (renewal : Bool) → (renewal ≡ true → mid ≡ renewed old) → (renewal ≡ false → mid ≡ old)
    → (renewal ≡ true → new ≡ after) → (renewal ≡ false → new ≡ unrenewed after moment) → IsDue old → IsDiscAccepted mid moment packet said after
    → IsEnqueued old moment packet said new
noted old mid after new moment packet said true made refused same late due accepts = record {
  ready = mid;
  renewal = inr (due, inl (made refl));
  accepts = subst (λ (s : DiscState). IsDiscAccepted mid moment packet said s) (sym (same refl)) accepts;
}
noted old mid after new moment packet said false made refused same late due accepts = record {
  ready = unrenewed mid moment;
  renewal = inr (due, inr (ap (λ (s : DiscState). unrenewed s moment) (refused refl)));
  accepts = subst (λ (s : DiscState). IsDiscAccepted (unrenewed mid moment) moment packet said s) (sym (late refl)) (accepted_unrenewed mid moment packet said after accepts);
}

pub ready_read : (old mid : DiscState) → IsDue old → (mid ≡ old) ⊎ (mid ≡ renewed old) → mid.unread ≡ 0
ready_read old mid due ready = elim ready [ inl same ↦ ap (λ (s : DiscState). s.unread) same ∙ due.read | inr anew ↦ ap (λ (s : DiscState). s.unread) anew ∙ due.read ]

-- After a renewal or none, an enqueue is made or refused as without it.
module _ (old mid new : DiscState) (moment : ℕ) (packet : PacketParts) (ready : (mid ≡ old) ⊎ (mid ≡ renewed old)) where
  -- It can't be refused after a renewal.
  same_where_refused : moment < 2 ^ 60 → (0 < mid.sched.room → refusal_of mid.sched.standing.state (Enqueue moment 0 packet) ≢ None) → mid ≡ old
  same_where_refused soon reserved =
      elim ready [
        | inl same ↦ same
        | inr anew ↦
            absurd
            (reserved (subst (λ (s : DiscState). 0 < s.sched.room) (sym anew) (omega arith))
            (subst (λ (s : DiscState). refusal_of s.sched.standing.state (Enqueue moment 0 packet) ≡ None) (sym anew) (first_fits old.sched.params.flows moment packet soon)))
      ]

  pub refused_anew : (r : Result Enqueued Refusal) → moment < 2 ^ 60 → (0 < mid.sched.room → OnErr r (refusal_of mid.sched.standing.state (Enqueue moment 0 packet) ≢ None))
      → IfErr r (IsRefusal (refusal_of mid.sched.standing.state (Enqueue moment 0 packet))) → IfErr r (IsRefusal (refusal_of old.sched.standing.state (Enqueue moment 0 packet)))
  refused_anew (Ok said) soon reserved refused = tt
  refused_anew (Err e) soon reserved refused = subst (λ (s : DiscState). IsRefusal (refusal_of s.sched.standing.state (Enqueue moment 0 packet)) e) (same_where_refused soon reserved) refused

  pub reserved_anew : (r : Result Enqueued Refusal) → moment < 2 ^ 60 → (0 < mid.sched.room → OnErr r (refusal_of mid.sched.standing.state (Enqueue moment 0 packet) ≢ None))
      → 0 < old.sched.room → OnErr r (refusal_of old.sched.standing.state (Enqueue moment 0 packet) ≢ None)
  reserved_anew (Ok said) soon reserved room = tt
  reserved_anew (Err e) soon reserved room =
      subst (λ (s : DiscState). 0 < s.sched.room → refusal_of s.sched.standing.state (Enqueue moment 0 packet) ≢ None) (same_where_refused soon reserved) reserved room

  pub unchanged_anew : (r : Result Enqueued Refusal) → moment < 2 ^ 60 → (0 < mid.sched.room → OnErr r (refusal_of mid.sched.standing.state (Enqueue moment 0 packet) ≢ None)) → OnErr r (new ≡ mid) → OnErr r (new ≡ old)
  unchanged_anew (Ok said) soon reserved same = tt
  unchanged_anew (Err e) soon reserved same = same ∙ same_where_refused soon reserved

  pub id_anew : (r : Result Enqueued Refusal) → IfOk r (λ said. said.id ≡ length mid.packets.accepted) → IfOk r (λ said. said.id ≡ length old.packets.accepted)
  id_anew (Ok said) id =
      elim ready [
        | inl same ↦ id ∙ ap (λ (s : DiscState). length s.packets.accepted) same
        | inr anew ↦ id ∙ ap (λ (s : DiscState). length s.packets.accepted) anew
      ]
  id_anew (Err e) id = tt
