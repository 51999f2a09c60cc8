-- What a plain queue keeps: what was accepted has its fate or waits, and not both, and only what came has a fate or waits.
use Rattle.std.proofs.Common.{◌≡◌, ℕ, suc, ◌+◌, ◌<◌, true, not, List, [], ◌∷◌, ◌++◌, length, length-append, map, filter, eqb, Option, Some, None, MatchOption, refl, sym, ap, subst, ◌∙◌, inl, inr, arith, append_assoc}
use Rattle.std.specs.List.{AllByRecursion}
use Rattle.std.proofs.lemmas.Bool.{cases_Bool, eq-eqb}
use Rattle.std.proofs.lemmas.List.{append-nil, map-append}
use Rattle.std.proofs.lemmas.List.Elements.{filter_map-append}
use Rattle.packet_core.specs.FlowNumber.{flow_number}
use Rattle.packet_core.specs.Packets.{PacketParts}
use Rattle.packet_core.specs.declared.flow.Seed.{Seed}
use Rattle.packet_core.specs.declared.packet.Waiting.{Waiting}
use Rattle.packet_core.specs.declared.params.ParamFields.{ParamFields}
use Rattle.codel_core.specs.Verdict.{sent_ecn}
use Rattle.codel_core.specs.declared.served.Mark.TheVariants.{NoMark}
use Rattle.journal_core.specs.declared.event.Cause.{Cause}
use Rattle.journal_core.specs.declared.event.Cause.TheVariants as cause
use Rattle.journal_core.specs.declared.event.Event.{Event}
use Rattle.journal_core.specs.declared.event.Event.TheVariants.{Accepted, Sent}
use Rattle.journal_core.specs.declared.outcome.Answer.{Answer}
use Rattle.journal_core.specs.declared.outcome.Answer.TheVariants as answer
use Rattle.journal_core.specs.declared.step.Refusal.{Refusal}
use Rattle.journal_core.specs.declared.step.Step.{Step}
use Rattle.journal_core.specs.declared.step.Step.TheVariants.{Enqueue, Dequeue, Close}
use Rattle.journal_core.specs.Disciplines.{Given}
use Rattle.journal_core.specs.Happened.{Acceptance, acceptance_of, acceptances, fate_ids, fate_of, is_among}
use Rattle.journal_core.specs.JournalLaws.{AreDistinct}
use Rattle.journal_core.specs.Runs.{Made, Runs, journal_of}
use Rattle.journal_core.specs.State.{State, arrival, refusal_of}
use Rattle.journal_core.specs.Steps.{Admits, Closes, Makes, Serves, Steps, drop_event, sent_events}
use Rattle.journal_core.proofs.ListLemmas.{ByRecursion-append, ByRecursion-parts, ByRecursion-weaker}
use Rattle.link_core.specs.Fifo.{GivesHead, TakesIn, fifo}
use Rattle.link_core.proofs.FatesInOrder.{IsInOrder, accept_in_order, close_in_order, distinct_more, fate_in_order}

-- the id of a packet that waits
abbrev id_of : Waiting → ℕ
id_of w = w.id

-- the ids of what has its fate, and then of what waits
abbrev pub tracked : List Event → List Waiting → List ℕ
tracked events queue = fate_ids events ++ map id_of queue

-- only what came has its fate or waits, and each packet that was accepted does one of the two
pub record IsTracked (s : State (List Waiting)) (events : List Event) : Type 0 where
  pub known : AllByRecursion (λ id. id < s.next_id) (tracked events s.queues)
  pub held : AllByRecursion (λ (a : Acceptance). is_among (tracked events s.queues) a.id ≡ true) (acceptances events)
  pub order : IsInOrder s.next_id events
  pub once : AreDistinct (tracked events s.queues)
  pub many : length (tracked events s.queues) ≡ s.next_id

-- one id more stands among the ids
record OneMore (id : ℕ) (old new : List ℕ) : Type 0 where
  pub before : List ℕ
  pub behind : List ℕ
  pub was : old ≡ before ++ behind
  pub becomes : new ≡ before ++ id ∷ behind

-- one id more leaves the others among them
among_others : (x id : ℕ) (before behind : List ℕ) → is_among (before ++ behind) id ≡ true → is_among (before ++ x ∷ behind) id ≡ true
among_others x id [] behind h = elim (cases_Bool (eqb x id)) [ inl t ↦ rw t | inr f ↦ rw f h ]
among_others x id (y ∷ before) behind h =
    let rest = λ (k : is_among (before ++ behind) id ≡ true). among_others x id before behind k in
    elim (cases_Bool (eqb y id)) [ inl t ↦ rw t | inr f ↦ rw f (rest (rw f at h)) ]

-- and is among them
among_itself : (x : ℕ) (before behind : List ℕ) → is_among (before ++ x ∷ behind) x ≡ true
among_itself x [] behind = rw (eq-eqb x x refl)
among_itself x (y ∷ before) behind = let rest = among_itself x before behind in elim (cases_Bool (eqb y x)) [ inl t ↦ rw t | inr f ↦ rw f rest ]

among_more : (x id : ℕ) (old new : List ℕ) → OneMore x old new → is_among old id ≡ true → is_among new id ≡ true
among_more x id old new m h =
    subst (λ (ids : List ℕ). is_among ids id ≡ true) (sym m.becomes) (among_others x id m.before m.behind (subst (λ (ids : List ℕ). is_among ids id ≡ true) m.was h))

among_new : (x : ℕ) (old new : List ℕ) → OneMore x old new → is_among new x ≡ true
among_new x old new m = subst (λ (ids : List ℕ). is_among ids x ≡ true) (sym m.becomes) (among_itself x m.before m.behind)

-- the next id is one more
below_more : (n : ℕ) (old new : List ℕ) → OneMore n old new → AllByRecursion (λ id. id < n) old → AllByRecursion (λ id. id < n + 1) new
below_more n old new m below =
    let later = ByRecursion-weaker (λ id. id < n) (λ id. id < n + 1) (m.before ++ m.behind) (λ id low. omega arith) (subst (AllByRecursion (λ id. id < n)) m.was below) in
    let parts = ByRecursion-parts (λ id. id < n + 1) m.before m.behind later in
    subst (AllByRecursion (λ id. id < n + 1)) (sym m.becomes) (ByRecursion-append (λ id. id < n + 1) m.before (n ∷ m.behind) parts.0 (omega arith, parts.1))

distinct_by : (n : ℕ) (old new : List ℕ) → OneMore n old new → AllByRecursion (λ id. id < n) old → AreDistinct old → AreDistinct new
distinct_by n old new m below once = subst AreDistinct (sym m.becomes) (distinct_more n m.before m.behind (subst (AllByRecursion (λ id. id < n)) m.was below) (subst AreDistinct m.was once))

many_by : (n : ℕ) (old new : List ℕ) → OneMore n old new → length old ≡ n → length new ≡ n + 1
many_by n old new m many =
    let was : length old ≡ length m.before + length m.behind = ap length m.was ∙ length-append m.before m.behind in
    let becomes : length new ≡ length m.before + suc (length m.behind) = ap length m.becomes ∙ length-append m.before (n ∷ m.behind) in
    omega arith

-- what is dropped or sent accepts nothing
none_accepted : (moment : ℕ) (why : Cause) (gone : List Waiting) (given : Option Given) → acceptances (map (drop_event moment why) gone ++ sent_events moment given) ≡ []
none_accepted moment why [] None = refl
none_accepted moment why [] (Some g) = refl
none_accepted moment why (w ∷ gone) given = none_accepted moment why gone given

drops_accept : (moment : ℕ) (why : Cause) (gone : List Waiting) → acceptances (map (drop_event moment why) gone) ≡ []
drops_accept moment why [] = refl
drops_accept moment why (w ∷ gone) = drops_accept moment why gone

-- what an arrival adds: the packet waits, or has its fate at once
taken_tracked : (limit : ℕ) (old new lost : List Waiting) (w : Waiting) (lane moment flow : ℕ) (events made : List Event) → TakesIn limit old w lost new → made ≡ Accepted lane w.id moment flow w.packet ∷ map (drop_event moment cause.Overflow) lost
    → OneMore w.id (tracked events old) (tracked (events ++ made) new)
taken_tracked limit old new lost w lane moment flow events made (inl t) told =
    let fates : fate_ids (events ++ made) ≡ fate_ids events = filter_map-append fate_of events made ∙ ap (λ (es : List Event). fate_ids events ++ fate_ids es) told ∙ ap (λ (l : List Waiting). fate_ids events ++ fate_ids (map (drop_event moment cause.Overflow) l)) t.1 ∙ append-nil (fate_ids events) in
    record {
      before = tracked events old;
      behind = [];
      was = sym (append-nil (tracked events old));
      becomes =
          ap (λ (ids : List ℕ). ids ++ map id_of new) fates
          ∙ ap (λ (q : List Waiting). fate_ids events ++ map id_of q) t.2
          ∙ ap (λ (ids : List ℕ). fate_ids events ++ ids) (map-append id_of old (w ∷ []))
          ∙ sym (append_assoc (fate_ids events) (map id_of old) (w.id ∷ []));
    }
taken_tracked limit old new lost w lane moment flow events made (inr t) told =
    let fates : fate_ids (events ++ made) ≡ fate_ids events ++ w.id ∷ [] = filter_map-append fate_of events made ∙ ap (λ (es : List Event). fate_ids events ++ fate_ids es) told ∙ ap (λ (l : List Waiting). fate_ids events ++ fate_ids (map (drop_event moment cause.Overflow) l)) t.1 in
    record {
      before = fate_ids events;
      behind = map id_of old;
      was = refl;
      becomes =
          ap (λ (ids : List ℕ). ids ++ map id_of new) fates
          ∙ ap (λ (q : List Waiting). (fate_ids events ++ w.id ∷ []) ++ map id_of q) t.2
          ∙ append_assoc (fate_ids events) (w.id ∷ []) (map id_of old);
    }

-- and ids stay in order
taken_order : (limit : ℕ) (old new lost : List Waiting) (w : Waiting) (lane moment flow : ℕ) (events made : List Event) → TakesIn limit old w lost new → made ≡ Accepted lane w.id moment flow w.packet ∷ map (drop_event moment cause.Overflow) lost
    → IsInOrder w.id events → IsInOrder (w.id + 1) (events ++ made)
taken_order limit old new lost w lane moment flow events made (inl t) told h =
    let e = Accepted lane w.id moment flow w.packet in
    let is : made ≡ e ∷ [] = told ∙ ap (λ (l : List Waiting). e ∷ map (drop_event moment cause.Overflow) l) t.1 in
    rw is (accept_in_order events w.id lane moment flow w.packet h)
taken_order limit old new lost w lane moment flow events made (inr t) told h =
    let e = Accepted lane w.id moment flow w.packet in
    let dropped = drop_event moment cause.Overflow w in
    let is : made ≡ e ∷ dropped ∷ [] = told ∙ ap (λ (l : List Waiting). e ∷ map (drop_event moment cause.Overflow) l) t.1 in
    rw is (subst (IsInOrder (w.id + 1)) (append_assoc events (e ∷ []) (dropped ∷ [])) (fate_in_order (events ++ e ∷ []) dropped (w.id + 1) w.id refl refl (omega arith) (accept_in_order events w.id lane moment flow w.packet h)))

-- a packet that is given has its fate in place of waiting
given_tracked : (old new dropped : List Waiting) (given : Option Given) (moment : ℕ) (events made : List Event) → GivesHead old dropped given new → made ≡ map (drop_event moment cause.Codel) dropped ++ sent_events moment given
    → tracked (events ++ made) new ≡ tracked events old
given_tracked [] new dropped given moment events made g told =
    let none : made ≡ [] = told ∙ (λ i. map (drop_event moment cause.Codel) (g.0 i) ++ sent_events moment (g.1 i)) in
    ap (λ (es : List Event). tracked es new) (ap (λ (es : List Event). events ++ es) none ∙ append-nil events) ∙ ap (tracked events) g.2
given_tracked (w ∷ rest) new dropped given moment events made g told =
    let one : made ≡ sent_events moment (Some (record { waiting = w; mark = NoMark })) = told ∙ (λ i. map (drop_event moment cause.Codel) (g.0 i) ++ sent_events moment (g.1 i)) in
    let fates : fate_ids (events ++ made) ≡ fate_ids events ++ w.id ∷ [] = filter_map-append fate_of events made ∙ ap (λ (es : List Event). fate_ids events ++ fate_ids es) one in
    ap (λ (ids : List ℕ). ids ++ map id_of new) fates
    ∙ ap (λ (q : List Waiting). (fate_ids events ++ w.id ∷ []) ++ map id_of q) g.2
    ∙ append_assoc (fate_ids events) (w.id ∷ []) (map id_of rest)

given_order : (old new dropped : List Waiting) (given : Option Given) (moment n : ℕ) (events made : List Event) → GivesHead old dropped given new → made ≡ map (drop_event moment cause.Codel) dropped ++ sent_events moment given
    → AllByRecursion (λ id. id < n) (map id_of old) → IsInOrder n events → IsInOrder n (events ++ made)
given_order [] new dropped given moment n events made g told below h =
    let none : made ≡ [] = told ∙ (λ i. map (drop_event moment cause.Codel) (g.0 i) ++ sent_events moment (g.1 i)) in
    rw (none, append-nil events) h
given_order (w ∷ rest) new dropped given moment n events made g told below h =
    let e : Event = Sent w.id moment (sent_ecn NoMark w.packet.ecn) NoMark in
    let one : made ≡ e ∷ [] = told ∙ (λ i. map (drop_event moment cause.Codel) (g.0 i) ++ sent_events moment (g.1 i)) in
    rw one (fate_in_order events e n w.id refl refl below.0 h)

-- a step that brings no packet
same_tracked : (old new : State (List Waiting)) (events events' : List Event) → new.next_id ≡ old.next_id → tracked events' new.queues ≡ tracked events old.queues → acceptances events' ≡ acceptances events → IsInOrder old.next_id events' → IsTracked old events → IsTracked new events'
same_tracked old new events events' next ids accepted order h = record {
  known = subst (λ (n : ℕ). AllByRecursion (λ id. id < n) (tracked events' new.queues)) (sym next) (subst (AllByRecursion (λ id. id < old.next_id)) (sym ids) h.known);
  held =
      subst (AllByRecursion (λ (a : Acceptance). is_among (tracked events' new.queues) a.id ≡ true)) (sym accepted)
      (subst (λ (all : List ℕ). AllByRecursion (λ (a : Acceptance). is_among all a.id ≡ true) (acceptances events)) (sym ids) h.held);
  order = subst (λ (n : ℕ). IsInOrder n events') (sym next) order;
  once = subst AreDistinct (sym ids) h.once;
  many = ap length ids ∙ h.many ∙ sym next;
}

module _ (p : ParamFields) (seed : Seed) where
  -- each step goes on so
  admits_tracked : (old new : State (List Waiting)) (moment lane : ℕ) (packet : PacketParts) (events made : List Event) → Admits (fifo p seed) old moment lane packet made new → IsTracked old events → IsTracked new (events ++ made)
  admits_tracked old new moment lane packet events made m h =
      let flow = flow_number p.classify p.flows seed packet.tuple in
      let all = tracked (events ++ made) new.queues in
      let before = tracked events old.queues in
      let a : Acceptance = record { id = old.next_id; moment = moment; lane = lane; flow = flow; packet = packet } in
      let more : OneMore old.next_id before all = taken_tracked p.limit old.queues new.queues m.lost (arrival old moment packet) lane moment flow events made m.queues m.told in
      let accepted : acceptances (events ++ made) ≡ acceptances events ++ a ∷ [] = filter_map-append acceptance_of events made ∙ ap (λ (es : List Event). acceptances events ++ acceptances es) m.told ∙ ap (λ (l : List Acceptance). acceptances events ++ a ∷ l) (drops_accept moment cause.Overflow m.lost) in
      let others = ByRecursion-weaker (λ (b : Acceptance). is_among before b.id ≡ true) (λ (b : Acceptance). is_among all b.id ≡ true) (acceptances events) (λ b among. among_more old.next_id b.id before all more among) h.held in
      record {
        known = subst (λ (n : ℕ). AllByRecursion (λ id. id < n) all) (sym m.next_id) (below_more old.next_id before all more h.known);
        held =
            subst (AllByRecursion (λ (b : Acceptance). is_among all b.id ≡ true)) (sym accepted)
            (ByRecursion-append (λ (b : Acceptance). is_among all b.id ≡ true) (acceptances events) (a ∷ []) others (among_new old.next_id before all more, tt));
        order = subst (λ (n : ℕ). IsInOrder n (events ++ made)) (sym m.next_id) (taken_order p.limit old.queues new.queues m.lost (arrival old moment packet) lane moment flow events made m.queues m.told h.order);
        once = distinct_by old.next_id before all more h.known h.once;
        many = many_by old.next_id before all more h.many ∙ sym m.next_id;
      }

  serves_tracked : (old new : State (List Waiting)) (moment : ℕ) (given : Option Given) (events made : List Event) → Serves (fifo p seed) old moment given made new → IsTracked old events → IsTracked new (events ++ made)
  serves_tracked old new moment given events made m h =
      let accepted : acceptances (events ++ made) ≡ acceptances events =
      filter_map-append acceptance_of events made
      ∙ ap (λ (es : List Event). acceptances events ++ acceptances es) m.told
      ∙ ap (λ (l : List Acceptance). acceptances events ++ l) (none_accepted moment cause.Codel m.dropped given)
      ∙ append-nil (acceptances events) in
      let waiting = (ByRecursion-parts (λ id. id < old.next_id) (fate_ids events) (map id_of old.queues) h.known).1 in
      let order = given_order old.queues new.queues m.dropped given moment old.next_id events made m.queues m.told waiting h.order in
      same_tracked old new events (events ++ made) m.next_id (given_tracked old.queues new.queues m.dropped given moment events made m.queues m.told) accepted order h

  closes_tracked : (old new : State (List Waiting)) (moment : ℕ) (events made : List Event) → Closes old moment made new → IsTracked old events → IsTracked new (events ++ made)
  closes_tracked old new moment events made m h =
      let fates : fate_ids (events ++ made) ≡ fate_ids events = filter_map-append fate_of events made ∙ ap (λ (es : List Event). fate_ids events ++ fate_ids es) m.told ∙ append-nil (fate_ids events) in
      let accepted : acceptances (events ++ made) ≡ acceptances events = filter_map-append acceptance_of events made ∙ ap (λ (es : List Event). acceptances events ++ acceptances es) m.told ∙ append-nil (acceptances events) in
      let next : new.next_id ≡ old.next_id = ap (λ (s : State (List Waiting)). s.next_id) m.state in
      let queues : new.queues ≡ old.queues = ap (λ (s : State (List Waiting)). s.queues) m.state in
      same_tracked old new events (events ++ made) next (λ i. fates i ++ map id_of (queues i)) accepted (rw m.told (close_in_order events old.next_id moment h.order)) h

  makes_tracked : (old new : State (List Waiting)) (step : Step) (said : Answer) (made events : List Event) → Makes (fifo p seed) old step said made new → IsTracked old events → IsTracked new (events ++ made)
  makes_tracked old new (Enqueue moment lane packet) said made events m h = admits_tracked old new moment lane packet events made m.1 h
  makes_tracked old new (Dequeue moment) said made events m h = serves_tracked old new moment m.0 events made m.2 h
  makes_tracked old new (Close moment) said made events m h = closes_tracked old new moment events made m.1 h

  pub steps_tracked : (old new : State (List Waiting)) (step : Step) (said : Answer) (made events : List Event) → Steps (fifo p seed) old step said made new → IsTracked old events → IsTracked new (events ++ made)
  steps_tracked old new step said made events s h = go (refusal_of old step) s
    where
      go : (o : Option Refusal) → MatchOption o (Makes (fifo p seed) old step said made new) (λ r. (said ≡ answer.Refused r) × (made ≡ []) × (new ≡ old)) → IsTracked new (events ++ made)
      go None m = makes_tracked old new step said made events m h
      go (Some r) m = rw (m.1, m.2, append-nil events) h

  -- and so does a run
  pub runs_tracked : (old new : State (List Waiting)) (steps : List Step) (made : List Made) (events : List Event) → Runs (fifo p seed) old steps made new → IsTracked old events → IsTracked new (events ++ journal_of made)
  runs_tracked old new [] [] events r h = rw (append-nil events, r) h
  runs_tracked old new [] (m ∷ made) events r h = absurd r
  runs_tracked old new (step ∷ steps) [] events r h = absurd r
  runs_tracked old new (step ∷ steps) (m ∷ made) events r h =
      subst (IsTracked new) (append_assoc events m.events (journal_of made)) (runs_tracked r.0 new steps made (events ++ m.events) r.2 (steps_tracked old r.0 step m.answer m.events events r.1 h))

-- where nothing waits, all have their fate
pub none_left : (ids : List ℕ) (accepted : List Acceptance) → AllByRecursion (λ (a : Acceptance). is_among ids a.id ≡ true) accepted → filter (λ (a : Acceptance). not (is_among ids a.id)) accepted ≡ []
none_left ids [] all = refl
none_left ids (a ∷ accepted) all = rw all.0 (none_left ids accepted all.1)
