-- Every step of a discipline that is first in, first out by flow carries its history on, and so does every run.
use Rattle.std.proofs.Common.{◌≡◌, ℕ, ◌+◌, ◌≤◌, Bool, false, List, [], ◌∷◌, ◌++◌, map, IfSome, eqb, Option, Some, None, MatchOption, refl, sym, ap, subst, ◌∙◌, inl, inr, arith, rules, append_assoc, append-nil}
use Rattle.journal_core.specs.declared.event.Cause.{Cause}
use Rattle.journal_core.specs.declared.event.Cause.TheVariants as cause
use Rattle.journal_core.specs.declared.step.Refusal.{Refusal}
use Rattle.journal_core.specs.declared.outcome.Answer.TheVariants as answer
use Rattle.codel_core.specs.Verdict.{sent_ecn}
use Rattle.journal_core.proofs.Words.{flat_map, cases_Bool, map-append, All-weaker, PacketParts, FiveTuple, Waiting, Event, Accepted, Sent, Step, Enqueue, Dequeue, Close, Answer, Discipline, Given, Batch, packets_of, LeaveHeads, IsFifoByFlow, LeavesHead, heads, with_arrival, given_packet, MayHave, Acceptance, waiting_of, moment_of, acceptances, fate_ids, named, IsHonest, JournalLaws, WaitWithoutFate, IsHistory, IsLine, State, opening_state, arrival, refusal_of, drop_event, sent_events, Admits, Serves, Closes, Makes, Steps, Made, Runs, journal_of}
use Rattle.journal_core.proofs.HistoryEvents.{history_accepts, history_closes, history_fates}
use Rattle.journal_core.proofs.LawsOfHistory.{laws_of_history, waits_of_history}
use Rattle.journal_core.proofs.RefusalLemmas.{dequeue_next, enqueue_open, close_open}

-- before the first event
pub history_opens : (flow_of : FiveTuple → ℕ) (queue_of : ℕ → List Waiting) → ((flow : ℕ) → queue_of flow ≡ []) → IsHistory flow_of queue_of [] 0 0 false
history_opens flow_of queue_of empty = record {
  ids = refl;
  flows = search rules;
  rises = search rules;
  past = search rules;
  known = search rules;
  follow = search rules;
  one_fate = tt;
  lines = λ flow. record { gone = []; rest = []; split = refl; fates = refl; queue = empty flow };
  close = refl;
  closed_for_good = tt;
  honest = search rules;
  left = refl;
  left_bytes = refl;
}

-- Time passes, and queues that are the same by flow have the same history.
history_waits : (flow_of : FiveTuple → ℕ) (queue_of queue_of' : ℕ → List Waiting) (events : List Event) (n last moment : ℕ) (closed : Bool) → ((flow : ℕ) → queue_of flow ≡ queue_of' flow) → last ≤ moment
    → IsHistory flow_of queue_of events n last closed → IsHistory flow_of queue_of' events n moment closed
history_waits flow_of queue_of queue_of' events n last moment closed same later h = record {
  ids = h.ids;
  flows = h.flows;
  rises = h.rises;
  past = All-weaker (λ m. m ≤ last) (λ m. m ≤ moment) (λ m low. omega arith) (map moment_of events) h.past;
  known = h.known;
  follow = h.follow;
  one_fate = h.one_fate;
  lines = λ flow. subst (λ q. IsLine flow q (acceptances events) (fate_ids events)) (same flow) (h.lines flow);
  close = h.close;
  closed_for_good = h.closed_for_good;
  honest = h.honest;
  left = h.left;
  left_bytes = h.left_bytes;
}

-- heads, one after another
heads_none : (flow f : ℕ) → heads flow [] f ≡ []
heads_none flow f = elim (cases_Bool (eqb flow f)) [ inl t ↦ rw t | inr t ↦ rw t ]

heads_append : (flow f : ℕ) (gone more : List Waiting) → heads flow (gone ++ more) f ≡ heads flow gone f ++ heads flow more f
heads_append flow f gone more = elim (cases_Bool (eqb flow f)) [ inl t ↦ rw t | inr t ↦ rw t ]

-- The packets leave the head of a flow's queue, each with an event that is its fate.
module _ (flow_of : FiveTuple → ℕ) (n : ℕ) (closed : Bool) (flow moment : ℕ) where
  pub history_drops : (why : Cause) (gone : List Waiting) (queue_of queue_of' : ℕ → List Waiting) (events : List Event) (last : ℕ) → IsHistory flow_of queue_of events n last closed → LeavesHead queue_of flow gone queue_of' → last ≤ moment
      → IsHistory flow_of queue_of' (events ++ map (drop_event moment why) gone) n moment closed
  history_drops why [] queue_of queue_of' events last h leaves later =
      let same = λ (f : ℕ). leaves f ∙ ap (λ r. r ++ queue_of' f) (heads_none flow f) in
      rw (append-nil events) (history_waits flow_of queue_of queue_of' events n last moment closed same later h)
  history_drops why (w ∷ gone) queue_of queue_of' events last h leaves later =
      let mid = λ (f : ℕ). heads flow gone f ++ queue_of' f in
      let first : LeavesHead queue_of flow (w ∷ []) mid = λ f. leaves f ∙ ap (λ r. r ++ queue_of' f) (heads_append flow f (w ∷ []) gone) ∙ append_assoc (heads flow (w ∷ []) f) (heads flow gone f) (queue_of' f) in
      let e = drop_event moment why w in
      let next = history_fates flow_of events n last queue_of mid closed flow w e h first later refl refl refl refl (λ a found same. tt) in
      subst (λ es. IsHistory flow_of queue_of' es n moment closed) (append_assoc events (e ∷ []) (map (drop_event moment why) gone))
      (history_drops why gone mid queue_of' (events ++ e ∷ []) moment next (λ f. refl) (omega arith))

  -- a packet is given behind those that are dropped
  pub history_serves : (why : Cause) (gone : List Waiting) (given : Option Given) (queue_of queue_of' : ℕ → List Waiting) (events : List Event) (last : ℕ) → IsHistory flow_of queue_of events n last closed → LeavesHead queue_of flow (gone ++ given_packet given) queue_of' → IfSome given (λ g. MayHave g.mark g.waiting.packet.ecn) → last ≤ moment
      → IsHistory flow_of queue_of' (events ++ (map (drop_event moment why) gone ++ sent_events moment given)) n moment closed
  history_serves why gone None queue_of queue_of' events last h leaves may later =
      rw (append-nil (map (drop_event moment why) gone)) (history_drops why gone queue_of queue_of' events last h (subst (λ r. LeavesHead queue_of flow r queue_of') (append-nil gone) leaves) later)
  history_serves why gone (Some g) queue_of queue_of' events last h leaves may later =
      let mid = λ (f : ℕ). heads flow (g.waiting ∷ []) f ++ queue_of' f in
      let first : LeavesHead queue_of flow gone mid = λ f. leaves f ∙ ap (λ r. r ++ queue_of' f) (heads_append flow f gone (g.waiting ∷ [])) ∙ append_assoc (heads flow gone f) (heads flow (g.waiting ∷ []) f) (queue_of' f) in
      let drops = map (drop_event moment why) gone in
      let e = Sent g.waiting.id moment (sent_ecn g.mark g.waiting.packet.ecn) g.mark in
      let dropped = history_drops why gone queue_of mid events last h first later in
      subst (λ es. IsHistory flow_of queue_of' es n moment closed) (append_assoc events drops (e ∷ []))
      (history_fates flow_of (events ++ drops) n moment mid queue_of' closed flow g.waiting e dropped (λ f. refl) (omega arith) refl refl refl refl
      (λ a found same. honest_at (acceptances (events ++ drops)) a found same))
    where
      honest_at : (accepted : List Acceptance) (a : Acceptance) → named accepted g.waiting.id ≡ Some a → waiting_of a ≡ g.waiting → IsHonest accepted (Sent g.waiting.id moment (sent_ecn g.mark g.waiting.packet.ecn) g.mark)
      honest_at accepted a found same =
          let ecn : a.packet.ecn ≡ g.waiting.packet.ecn = ap (λ (w : Waiting). w.packet.ecn) same in
          rw found (ap (sent_ecn g.mark) (sym ecn), subst (MayHave g.mark) (sym ecn) may)

-- batches leave the heads of their flows' queues, one after another
history_batches : (flow_of : FiveTuple → ℕ) (n : ℕ) (closed : Bool) (moment : ℕ) (why : Cause) (batches : List Batch) (queue_of queue_of' : ℕ → List Waiting) (events : List Event) (last : ℕ) → IsHistory flow_of queue_of events n last closed → LeaveHeads queue_of batches queue_of' → last ≤ moment
    → IsHistory flow_of queue_of' (events ++ map (drop_event moment why) (packets_of batches)) n moment closed
history_batches flow_of n closed moment why [] queue_of queue_of' events last h leave later =
    rw (append-nil events) (history_waits flow_of queue_of queue_of' events n last moment closed leave later h)
history_batches flow_of n closed moment why (b ∷ batches) queue_of queue_of' events last h leave later =
    let mid = λ (f : ℕ). flat_map (λ (c : Batch). heads c.flow c.gone f) batches ++ queue_of' f in
    let first : LeavesHead queue_of b.flow b.gone mid = λ f. leave f ∙ append_assoc (heads b.flow b.gone f) (flat_map (λ (c : Batch). heads c.flow c.gone f) batches) (queue_of' f) in
    let drops = map (drop_event moment why) b.gone in
    let rest = map (drop_event moment why) (packets_of batches) in
    let dropped = history_drops flow_of n closed b.flow moment why b.gone queue_of mid events last h first later in
    let all = history_batches flow_of n closed moment why batches mid queue_of' (events ++ drops) moment dropped (λ f. refl) (omega arith) in
    let joined : (events ++ drops) ++ rest ≡ events ++ map (drop_event moment why) (b.gone ++ packets_of batches) = append_assoc events drops rest ∙ ap (λ es. events ++ es) (sym (map-append (drop_event moment why) b.gone (packets_of batches))) in
    subst (λ es. IsHistory flow_of queue_of' es n moment closed) joined all

-- Every discipline that is first in, first out by flow.
module _ {Q : Type 0} (d : Discipline Q) (queue_of : Q → ℕ → List Waiting) (fifo : IsFifoByFlow d queue_of) where
  -- the journal is a history of the state
  abbrev pub Keeps : State Q → List Event → Type 0
  Keeps s events = IsHistory d.flow_of (queue_of s.queues) events s.next_id s.last s.closed

  -- the same, where the parts of the state are known
  keeps_at : (s : State Q) (events : List Event) (n last : ℕ) (closed : Bool) → s.next_id ≡ n → s.last ≡ last → s.closed ≡ closed → IsHistory d.flow_of (queue_of s.queues) events n last closed → Keeps s events
  keeps_at s events n last closed e f g h = rw (e, f, g) h

  keeps_admits : (old new : State Q) (moment lane : ℕ) (packet : PacketParts) (made events : List Event) → refusal_of old (Enqueue moment lane packet) ≡ None → Admits d old moment lane packet made new → Keeps old events → Keeps new (events ++ made)
  keeps_admits old new moment lane packet made events fits m h =
      let known = (enqueue_open old moment lane packet fits).0 in
      let w = arrival old moment packet in
      let e = Accepted lane old.next_id moment (d.flow_of packet.tuple) packet in
      let before : IsHistory d.flow_of (queue_of old.queues) events old.next_id old.last false = subst (λ b. IsHistory d.flow_of (queue_of old.queues) events old.next_id old.last b) known.open' h in
      let accepted = history_accepts d.flow_of events old.next_id old.last (queue_of old.queues) moment lane packet before known.next.later in
      let batches = fifo.admits old.queues w m.lost new.queues m.queues in
      let all = history_batches d.flow_of (old.next_id + 1) false moment cause.Overflow batches.0 (with_arrival (queue_of old.queues) (d.flow_of packet.tuple) w) (queue_of new.queues) (events ++ e ∷ []) moment accepted batches.2 (omega arith) in
      keeps_at new (events ++ made) (old.next_id + 1) moment false m.next_id m.last (m.closed ∙ known.open')
      (rw (m.told, batches.1) (subst (λ es. IsHistory d.flow_of (queue_of new.queues) es (old.next_id + 1) moment false) (append_assoc events (e ∷ []) (map (drop_event moment cause.Overflow) (packets_of batches.0))) all))

  keeps_serves : (old new : State Q) (moment : ℕ) (given : Option Given) (made events : List Event) → refusal_of old (Dequeue moment) ≡ None → Serves d old moment given made new → Keeps old events → Keeps new (events ++ made)
  keeps_serves old new moment given made events fits m h =
      let leaves = fifo.serves old.queues moment m.dropped given new.queues m.queues in
      let all = history_serves d.flow_of old.next_id old.closed leaves.0.0 moment cause.Codel m.dropped given (queue_of old.queues) (queue_of new.queues) events old.last h leaves.0.1 leaves.1 (dequeue_next old moment fits).later in
      keeps_at new (events ++ made) old.next_id moment old.closed m.next_id m.last m.closed (rw m.told all)

  keeps_closes : (old new : State Q) (moment : ℕ) (made events : List Event) → refusal_of old (Close moment) ≡ None → Closes old moment made new → Keeps old events → Keeps new (events ++ made)
  keeps_closes old new moment made events fits m h =
      let known = close_open old moment fits in
      let before : IsHistory d.flow_of (queue_of old.queues) events old.next_id old.last false = subst (λ b. IsHistory d.flow_of (queue_of old.queues) events old.next_id old.last b) known.open' h in
      rw (m.told, m.state) (history_closes d.flow_of events old.next_id old.last (queue_of old.queues) moment before known.next.later)

  pub keeps_makes : (old new : State Q) (step : Step) (said : Answer) (made events : List Event) → refusal_of old step ≡ None → Makes d old step said made new → Keeps old events → Keeps new (events ++ made)
  keeps_makes old new (Enqueue moment lane packet) said made events fits m h = keeps_admits old new moment lane packet made events fits m.1 h
  keeps_makes old new (Dequeue moment) said made events fits m h = keeps_serves old new moment m.0 made events fits m.2 h
  keeps_makes old new (Close moment) said made events fits m h = keeps_closes old new moment made events fits m.1 h

  pub keeps_steps : (old new : State Q) (step : Step) (said : Answer) (made events : List Event) → Steps d old step said made new → Keeps old events → Keeps new (events ++ made)
  keeps_steps old new step said made events s h = go (refusal_of old step) refl s
    where
      go : (o : Option Refusal) → refusal_of old step ≡ o → MatchOption o (Makes d old step said made new) (λ r. (said ≡ answer.Refused r) × (made ≡ []) × (new ≡ old)) → Keeps new (events ++ made)
      go None fits m = keeps_makes old new step said made events fits m h
      go (Some r) is m = rw (m.1, m.2, append-nil events) h

  pub keeps_runs : (old new : State Q) (steps : List Step) (made : List Made) (events : List Event) → Runs d old steps made new → Keeps old events → Keeps new (events ++ journal_of made)
  keeps_runs old new [] [] events r h = rw (append-nil events, r) h
  keeps_runs old new [] (m ∷ made) events r h = absurd r
  keeps_runs old new (step ∷ steps) [] events r h = absurd r
  keeps_runs old new (step ∷ steps) (m ∷ made) events r h =
      subst (Keeps new) (append_assoc events m.events (journal_of made))
      (keeps_runs r.0 new steps made (events ++ m.events) r.2 (keeps_steps old r.0 step m.answer m.events events r.1 h))

  -- a new scheduler's journal is a history of its opening state
  pub keeps_opening : Keeps (opening_state d.opening) []
  keeps_opening = history_opens d.flow_of (queue_of d.opening) fifo.opens

  -- the journal of every run has the laws, and its queues are what has no fate
  pub run_laws : (steps : List Step) (made : List Made) (new : State Q) → Runs d (opening_state d.opening) steps made new → JournalLaws d.flow_of (journal_of made) × WaitWithoutFate (queue_of new.queues) (journal_of made)
  run_laws steps made new r =
      let h = keeps_runs (opening_state d.opening) new steps made [] r keeps_opening in
      (laws_of_history d.flow_of (queue_of new.queues) (journal_of made) new.next_id new.last new.closed h, waits_of_history d.flow_of (queue_of new.queues) (journal_of made) new.next_id new.last new.closed h)
