-- The counts that run along are those of the statistics, event by event.
use Rattle.std.proofs.Common.{◌≡◌, ℕ, ◌+◌, Bool, cond, List, [], ◌∷◌, ◌++◌, length, map, sum_by, Option, Some, None, refl, rules, ap, subst, ◌∙◌, arith, append-nil, append_assoc}
use Rattle.packet_core.specs.declared.packet.Ecn.{Ecn}
use Rattle.codel_core.specs.declared.served.Mark.{Mark}
use Rattle.codel_core.specs.declared.served.Mark.TheVariants.{NoMark, CodelMark, Threshold}
use Rattle.journal_core.specs.declared.event.Cause.{Cause}
use Rattle.journal_core.specs.declared.event.Cause.TheVariants.{Codel, Overflow}
use Rattle.journal_core.specs.declared.journal.Counts.{Counts}
use Rattle.journal_core.specs.Books.{count_accepted, count_sent, count_dropped, count_drops}
use Rattle.journal_core.proofs.Words.{count_by, AllByRecursion, filter_map, length-append, filter_map-append, sum_by-append, PacketParts, Waiting, Event, Accepted, Sent, Dropped, Closed, Acceptance, acceptance_of, fate_of, acceptances, fate_ids, named, AreCounts, sent_of, dropped_of, is_codel_drop, is_overflow_drop, is_marked, is_threshold_marked, length_of, length_named, bytes_named, drop_event}
use Rattle.journal_core.proofs.EventLemmas.{filter_map_same, filter_map_push, sum_more}
use Rattle.journal_core.proofs.FatelessPackets.{fate_parts, sum_fates}
use Rattle.journal_core.proofs.FlowShares.{AreFound}
use Rattle.journal_core.proofs.HistoryEvents.{bytes_stay}

-- what an event adds to each count
abbrev Grow : Counts → Counts → List Acceptance → Event → Type 0
Grow c c' accepted e =
    (c'.accepted ≡ c.accepted + length (acceptances (e ∷ []))) × (c'.accepted_bytes ≡ c.accepted_bytes + sum_by length_of (acceptances (e ∷ [])))
    × (c'.sent ≡ c.sent + length (filter_map sent_of (e ∷ []))) × (c'.sent_bytes ≡ c.sent_bytes + bytes_named accepted (filter_map sent_of (e ∷ [])))
    × (c'.dropped_codel ≡ c.dropped_codel + count_by is_codel_drop (e ∷ [])) × (c'.dropped_overflow ≡ c.dropped_overflow + count_by is_overflow_drop (e ∷ []))
    × (c'.dropped_bytes ≡ c.dropped_bytes + bytes_named accepted (filter_map dropped_of (e ∷ []))) × (c'.marked ≡ c.marked + count_by is_marked (e ∷ []))
    × (c'.threshold_marked ≡ c.threshold_marked + count_by is_threshold_marked (e ∷ []))
    × (c'.sent + c'.dropped_codel + c'.dropped_overflow ≡ c.sent + c.dropped_codel + c.dropped_overflow + length (fate_ids (e ∷ [])))

-- One event more, where the ids sent and dropped name the same lengths as before.
module _ (c c' : Counts) (events : List Event) (e : Event) (h : AreCounts c events) where
  counts_push : Grow c c' (acceptances events) e → bytes_named (acceptances (events ++ e ∷ [])) (filter_map sent_of (events ++ e ∷ [])) ≡ bytes_named (acceptances events) (filter_map sent_of (events ++ e ∷ []))
      → bytes_named (acceptances (events ++ e ∷ [])) (filter_map dropped_of (events ++ e ∷ [])) ≡ bytes_named (acceptances events) (filter_map dropped_of (events ++ e ∷ [])) → AreCounts c' (events ++ e ∷ [])
  counts_push grow sent_stay dropped_stay =
      let sent_more = sum_more (length_named (acceptances events)) sent_of events e in
      let dropped_more = sum_more (length_named (acceptances events)) dropped_of events e in
      record {
        accepted = omega (arith, h.accepted, grow.0, length_more acceptance_of);
        accepted_bytes = omega (arith, h.accepted_bytes, grow.1, sum_more length_of acceptance_of events e);
        sent = omega (arith, h.sent, grow.2, length_more sent_of);
        sent_bytes = omega (arith, h.sent_bytes, grow.3);
        dropped_codel = omega (arith, h.dropped_codel, grow.4, count_more is_codel_drop);
        dropped_overflow = omega (arith, h.dropped_overflow, grow.5, count_more is_overflow_drop);
        dropped_bytes = omega (arith, h.dropped_bytes, grow.6);
        marked = omega (arith, h.marked, grow.7, count_more is_marked);
        threshold_marked = omega (arith, h.threshold_marked, grow.8, count_more is_threshold_marked);
        fates = omega (arith, h.fates, grow.9, length_more fate_of);
        fate_bytes = omega (arith, h.sent_bytes, h.dropped_bytes, grow.3, grow.6, sum_fates (length_named (acceptances (events ++ e ∷ []))) (events ++ e ∷ []));
      }
    where
      length_more : {X : Type 0} (f : Event → Option X) → length (filter_map f (events ++ e ∷ [])) ≡ length (filter_map f events) + length (filter_map f (e ∷ []))
      length_more f = ap length (filter_map-append f events (e ∷ [])) ∙ length-append (filter_map f events) (filter_map f (e ∷ []))

      count_more : (p : Event → Bool) → count_by p (events ++ e ∷ []) ≡ count_by p events + count_by p (e ∷ [])
      count_more p = sum_by-append (λ x. cond (p x) 1 0) events (e ∷ [])

  -- one that accepts nothing
  counts_without : acceptance_of e ≡ None → Grow c c' (acceptances events) e → AreCounts c' (events ++ e ∷ [])
  counts_without none grow =
      let same = filter_map_same acceptance_of events e none in
      counts_push grow (ap (λ accepted. bytes_named accepted (filter_map sent_of (events ++ e ∷ []))) same) (ap (λ accepted. bytes_named accepted (filter_map dropped_of (events ++ e ∷ []))) same)

-- an acceptance
pub counts_accept : (c : Counts) (events : List Event) (id moment lane flow : ℕ) (packet : PacketParts) → AreFound (acceptances events) (fate_ids events) → AreCounts c events → AreCounts (count_accepted c packet.len) (events ++ Accepted lane id moment flow packet ∷ [])
counts_accept c events id moment lane flow packet found h =
    let e : Event = Accepted lane id moment flow packet in
    let a : Acceptance = record { id = id; moment = moment; lane = lane; flow = flow; packet = packet } in
    let accepted : acceptances (events ++ e ∷ []) ≡ acceptances events ++ a ∷ [] = filter_map_push acceptance_of events e a refl in
    let parts = fate_parts (λ i. (b : Acceptance) × (named (acceptances events) i ≡ Some b)) events found in
    counts_push c (count_accepted c packet.len) events e h (search rules)
    (rw (accepted, filter_map_same sent_of events e refl) (bytes_stay (acceptances events) (a ∷ []) (filter_map sent_of events) parts.0))
    (rw (accepted, filter_map_same dropped_of events e refl) (bytes_stay (acceptances events) (a ∷ []) (filter_map dropped_of events) parts.1))

-- a packet sent
pub counts_send : (c : Counts) (events : List Event) (id moment : ℕ) (ecn : Ecn) (mark : Mark) (len : ℕ) → length_named (acceptances events) id ≡ len → AreCounts c events → AreCounts (count_sent c len mark) (events ++ Sent id moment ecn mark ∷ [])
counts_send c events id moment ecn NoMark len value h = counts_without c (count_sent c len NoMark) events (Sent id moment ecn NoMark) h refl (search rules)
counts_send c events id moment ecn CodelMark len value h = counts_without c (count_sent c len CodelMark) events (Sent id moment ecn CodelMark) h refl (search rules)
counts_send c events id moment ecn Threshold len value h = counts_without c (count_sent c len Threshold) events (Sent id moment ecn Threshold) h refl (search rules)

-- a packet dropped
pub counts_drop : (c : Counts) (events : List Event) (id moment : ℕ) (why : Cause) (len : ℕ) → length_named (acceptances events) id ≡ len → AreCounts c events → AreCounts (count_dropped c len why) (events ++ Dropped id moment why ∷ [])
counts_drop c events id moment Codel len value h = counts_without c (count_dropped c len Codel) events (Dropped id moment Codel) h refl (search rules)
counts_drop c events id moment Overflow len value h = counts_without c (count_dropped c len Overflow) events (Dropped id moment Overflow) h refl (search rules)

-- packets dropped, one after another
pub counts_drops : (why : Cause) (moment : ℕ) (c : Counts) (events : List Event) (ws : List Waiting) → AllByRecursion (λ w. length_named (acceptances events) w.id ≡ w.packet.len) ws → AreCounts c events → AreCounts (count_drops why c ws) (events ++ map (drop_event moment why) ws)
counts_drops why moment c events [] known h = rw (append-nil events) h
counts_drops why moment c events (w ∷ ws) known h =
    let e : Event = drop_event moment why w in
    let accepted : acceptances (events ++ e ∷ []) ≡ acceptances events = filter_map_same acceptance_of events e refl in
    let first = counts_drop c events w.id moment why w.packet.len known.0 h in
    let still : AllByRecursion (λ (v : Waiting). length_named (acceptances (events ++ e ∷ [])) v.id ≡ v.packet.len) ws = rw accepted known.1 in
    subst (AreCounts (count_drops why c (w ∷ ws))) (append_assoc events (e ∷ []) (map (drop_event moment why) ws))
    (counts_drops why moment (count_dropped c w.packet.len why) (events ++ e ∷ []) ws still first)

-- drops accept nothing
pub count_drops-accepted : (why : Cause) (c : Counts) (ws : List Waiting) → (count_drops why c ws).accepted ≡ c.accepted
count_drops-accepted why c [] = refl
count_drops-accepted why c (w ∷ ws) = count_drops-accepted why (count_dropped c w.packet.len why) ws

-- a close
pub counts_close : (c : Counts) (events : List Event) (moment : ℕ) → AreCounts c events → AreCounts c (events ++ Closed moment ∷ [])
counts_close c events moment h = counts_without c c events (Closed moment) h refl (search rules)
