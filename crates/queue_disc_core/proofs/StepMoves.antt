-- What each step of the scheduler accepts and sends.
use Rattle.std.proofs.Common.{◌≡◌, ℕ, ◌<◌, List, [], ◌∷◌, ◌++◌, length, map, Option, Some, None, option_map, IsSomeAnd, refl, ap, subst, sym, ◌∙◌, append-nil}
use Rattle.std.specs.List.{filter_map}
use Rattle.std.proofs.lemmas.List.Elements.{filter_map-append}
use Rattle.packet_core.specs.Packets.{PacketParts}
use Rattle.packet_core.specs.declared.packet.Waiting.{Waiting}
use Rattle.codel_core.specs.Verdict.{sent_ecn}
use Rattle.journal_core.specs.declared.event.Cause.{Cause}
use Rattle.journal_core.specs.declared.event.Cause.TheVariants as cause
use Rattle.journal_core.specs.declared.event.Event.{Event}
use Rattle.journal_core.specs.declared.outcome.Answer.TheVariants as answer
use Rattle.journal_core.specs.declared.step.Sent.{Sent}
use Rattle.journal_core.specs.declared.step.Step.TheVariants.{Close, Enqueue}
use Rattle.journal_core.specs.Calls.{sent_at}
use Rattle.journal_core.specs.Disciplines.{Given}
use Rattle.journal_core.specs.Happened.{Acceptance, acceptance_of, acceptances, fate_ids, named, waiting_of}
use Rattle.journal_core.specs.Losses.{IsOfAccepted, accepted_packets, lost_packets, packets_named, sent_packets}
use Rattle.journal_core.specs.State.{arrival}
use Rattle.journal_core.specs.Statistics.{dropped_of, sent_of, statistics}
use Rattle.journal_core.specs.Steps.{drop_event, sent_events}
use Rattle.journal_core.proofs.FlowShares.{AreFound}
use Rattle.journal_core.proofs.LossLemmas.{drops_accept_none}
use Rattle.sched_core.specs.Schedulers.{IsAdvanced, IsServed, Scheduler, discipline_of}
use Rattle.queue_disc_core.specs.Laws.{IsLawful}
use Rattle.queue_disc_core.specs.QueueDiscTotals.{HasGrown}
use Rattle.queue_disc_core.proofs.Balance.{Moves}
use Rattle.queue_disc_core.proofs.DropCounts.{fates_found}
use Rattle.queue_disc_core.proofs.Handles.{named_is}
use Rattle.queue_disc_core.proofs.Growth.{accepted_more, has_grown, lost_more, sent_more}

drops_send_none : (moment : ℕ) (why : Cause) (ws : List Waiting) → filter_map sent_of (map (drop_event moment why) ws) ≡ []
drops_send_none moment why [] = refl
drops_send_none moment why (w ∷ ws) = drops_send_none moment why ws

-- the fates of a lawful scheduler's journal
pub found_of : (s : Scheduler) → IsLawful s → AreFound (acceptances s.standing.events) (fate_ids s.standing.events)
found_of s l = fates_found (discipline_of s).flow_of s.standing.events l.laws

-- Events that come to the journal's end, by what they accept and send.
moves_by : (old new : Scheduler) (made : List Event) (come gone : List Waiting) → IsLawful old → new.standing.events ≡ old.standing.events ++ made
    → map waiting_of (acceptances made) ≡ come → packets_named (acceptances (old.standing.events ++ made)) (filter_map sent_of made) ≡ gone → Moves old new come gone
moves_by old new made come gone l journal accepts sends =
    let events = old.standing.events in
    let found = found_of old l in
    record {
      accepted = ap accepted_packets journal ∙ accepted_more events made found ∙ ap (λ ws. accepted_packets events ++ ws) accepts;
      sent = ap sent_packets journal ∙ sent_more events made found ∙ ap (λ ws. sent_packets events ++ ws) sends;
      dropped = packets_named (acceptances (events ++ made)) (filter_map dropped_of made);
      lost = ap lost_packets journal ∙ lost_more events made found;
    }

pub enqueue_moves : (old new : Scheduler) (moment : ℕ) (packet : PacketParts) → IsLawful old → IsAdvanced old (Enqueue moment 0 packet) answer.Accepted new
    → Moves old new (arrival old.standing.state moment packet ∷ []) []
enqueue_moves old new moment packet l a =
    let told = a.advances.makes.1.told in
    let drops = map (drop_event moment cause.Overflow) a.advances.makes.1.lost in
    moves_by old new a.advances.made (arrival old.standing.state moment packet ∷ []) [] l a.advances.journal
    (rw told (let none : acceptances drops ≡ [] = drops_accept_none moment cause.Overflow a.advances.makes.1.lost in rw none refl))
    (let none : filter_map sent_of a.advances.made ≡ [] = rw told (drops_send_none moment cause.Overflow a.advances.makes.1.lost) in ap (packets_named _) none)

pub close_moves : (old new : Scheduler) (moment : ℕ) → IsLawful old → IsAdvanced old (Close moment) answer.Closed new → Moves old new [] []
close_moves old new moment l a =
    let told = a.advances.makes.1.told in
    moves_by old new a.advances.made [] [] l a.advances.journal (rw told refl) (let none : filter_map sent_of a.advances.made ≡ [] = rw told refl in ap (packets_named _) none)

-- a close loses none
pub close_loses : (old new : Scheduler) (moment : ℕ) → IsLawful old → IsAdvanced old (Close moment) answer.Closed new → lost_packets new.standing.events ≡ lost_packets old.standing.events
close_loses old new moment l a =
    let events = old.standing.events in
    let made = a.advances.made in
    let told = a.advances.makes.1.told in
    let none : filter_map dropped_of made ≡ [] = rw told refl in
    ap lost_packets a.advances.journal ∙ lost_more events made (found_of old l) ∙ ap (λ ids. lost_packets events ++ packets_named (acceptances (events ++ made)) ids) none ∙ append-nil (lost_packets events)

-- what a dequeue accepts, which is none, and the ids that it sends
abbrev ids_of : Option Sent → List ℕ
ids_of None = []
ids_of (Some sent) = sent.id ∷ []

served_ids : (moment : ℕ) (dropped : List Waiting) (given : Option Given) → (acceptances (map (drop_event moment cause.Codel) dropped ++ sent_events moment given) ≡ [])
    × (filter_map sent_of (map (drop_event moment cause.Codel) dropped ++ sent_events moment given) ≡ ids_of (option_map (sent_at moment) given))
served_ids moment dropped given =
    let drops = map (drop_event moment cause.Codel) dropped in (
      filter_map-append acceptance_of drops (sent_events moment given) ∙ ap (λ l. l ++ acceptances (sent_events moment given)) (drops_accept_none moment cause.Codel dropped) ∙ accepts given,
      filter_map-append sent_of drops (sent_events moment given) ∙ ap (λ l. l ++ filter_map sent_of (sent_events moment given)) (drops_send_none moment cause.Codel dropped) ∙ sends given,
    )
  where
    accepts : (given : Option Given) → acceptances (sent_events moment given) ≡ []
    accepts None = refl
    accepts (Some g) = refl

    sends : (given : Option Given) → filter_map sent_of (sent_events moment given) ≡ ids_of (option_map (sent_at moment) given)
    sends None = refl
    sends (Some g) = refl

-- a dequeue sends what its id names, and accepts nothing
served_moves : (old new : Scheduler) (moment : ℕ) (sent : Option Sent) → IsLawful old → IsServed old moment sent new
    → Moves old new [] (packets_named (acceptances old.standing.events) (ids_of sent))
served_moves old new moment sent l s =
    let g = s.gives in
    let made : g.made ≡ map (drop_event moment cause.Codel) g.serves.dropped ++ sent_events moment g.given = g.serves.told in
    let parts = served_ids moment g.serves.dropped g.given in
    let accepts : acceptances g.made ≡ [] = ap acceptances made ∙ parts.0 in
    let sends : filter_map sent_of g.made ≡ ids_of sent = ap (filter_map sent_of) made ∙ parts.1 ∙ ap ids_of (sym g.told) in
    let same : acceptances (old.standing.events ++ g.made) ≡ acceptances old.standing.events =
    filter_map-append acceptance_of old.standing.events g.made ∙ ap (λ l. acceptances old.standing.events ++ l) accepts ∙ append-nil (acceptances old.standing.events) in
    moves_by old new g.made [] (packets_named (acceptances old.standing.events) (ids_of sent)) l g.journal (ap (map waiting_of) accepts)
    (ap (packets_named (acceptances (old.standing.events ++ g.made))) sends ∙ ap (λ accepted. packets_named accepted (ids_of sent)) same)

pub idle_moves : (old new : Scheduler) (moment : ℕ) → IsLawful old → IsServed old moment None new → Moves old new [] []
idle_moves old new moment l s = served_moves old new moment None l s

-- The packet that a dequeue gives, as it was accepted.
pub record SendsOne (old new : Scheduler) (sent : Sent) : Type 0 where
  pub waited : Waiting
  pub tag : waited.packet.tag ≡ sent.packet.tag
  pub id : waited.id ≡ sent.id
  pub below : waited.id < length (acceptances old.standing.events)
  pub moves : Moves old new [] (waited ∷ [])

pub sent_moves : (old new : Scheduler) (moment : ℕ) (sent : Sent) → IsLawful old → IsServed old moment (Some sent) new → IsOfAccepted old.standing.events sent → SendsOne old new sent
sent_moves old new moment sent l s accepted = of_found (named (acceptances old.standing.events) sent.id) refl accepted
  where
    of_found : (o : Option Acceptance) → named (acceptances old.standing.events) sent.id ≡ o → IsSomeAnd o (λ a. sent.packet ≡ record a.packet { ecn = sent_ecn sent.mark a.packet.ecn }) → SendsOne old new sent
    of_found None e h = absurd h
    of_found (Some a) e h =
        let of_id = named_is (acceptances old.standing.events) sent.id a (length (acceptances old.standing.events)) l.laws.ids_in_order e in
        let waits : packets_named (acceptances old.standing.events) (sent.id ∷ []) ≡ waiting_of a ∷ [] = rw e refl in
        record {
          waited = waiting_of a;
          tag = sym (ap (λ (p : PacketParts). p.tag) h);
          id = of_id.0;
          below = of_id.1;
          moves = subst (λ ws. Moves old new [] ws) waits (served_moves old new moment (Some sent) l s);
        }

-- The same of what is counted of sent packets.
pub enqueue_grows : (old new : Scheduler) (moment : ℕ) (packet : PacketParts) → IsLawful old → IsAdvanced old (Enqueue moment 0 packet) answer.Accepted new → HasGrown (statistics old.standing.events) (statistics new.standing.events)
enqueue_grows old new moment packet l a = subst (λ (es : List Event). HasGrown (statistics old.standing.events) (statistics es)) (sym a.advances.journal) (has_grown old.standing.events a.advances.made (found_of old l))

pub close_grows : (old new : Scheduler) (moment : ℕ) → IsLawful old → IsAdvanced old (Close moment) answer.Closed new → HasGrown (statistics old.standing.events) (statistics new.standing.events)
close_grows old new moment l a = subst (λ (es : List Event). HasGrown (statistics old.standing.events) (statistics es)) (sym a.advances.journal) (has_grown old.standing.events a.advances.made (found_of old l))

pub served_grows : (old new : Scheduler) (moment : ℕ) (sent : Option Sent) → IsLawful old → IsServed old moment sent new → HasGrown (statistics old.standing.events) (statistics new.standing.events)
served_grows old new moment sent l s = subst (λ (es : List Event). HasGrown (statistics old.standing.events) (statistics es)) (sym s.gives.journal) (has_grown old.standing.events s.gives.made (found_of old l))
