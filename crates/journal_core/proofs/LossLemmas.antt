-- The packets that a journal names as lost and as sent, event by event.
use Rattle.std.proofs.Common.{◌≡◌, ℕ, ◌==◌, List, [], ◌∷◌, ◌++◌, map, Option, Some, None, option_map, refl, ap, ◌∙◌, append-nil}
use Rattle.std.specs.List.{cons_option}
use Rattle.std.specs.Option.{option_or}
use Rattle.packet_core.specs.declared.packet.Ecn.{Ecn}
use Rattle.codel_core.specs.declared.served.Mark.{Mark}
use Rattle.journal_core.specs.declared.event.Cause.{Cause}
use Rattle.journal_core.specs.Losses.{departed_packets, left_as, lost_packets, packets_named, waited_as, with_field}
use Rattle.journal_core.proofs.Words.{AllByRecursion, filter_map, find-append, filter_map-append, PacketParts, Waiting, Event, Accepted, Sent, Dropped, Closed, Acceptance, acceptance_of, acceptances, fate_ids, named, waiting_of, dropped_of, drop_event}
use Rattle.journal_core.proofs.EventLemmas.{filter_map_push, filter_map_same}
use Rattle.journal_core.proofs.FatelessPackets.{fate_parts}
use Rattle.journal_core.proofs.FlowShares.{AreFound}
use Rattle.journal_core.proofs.KnownPackets.{IsKnown}

-- more acceptances leave the packet that a found id names
pub waited_still : (accepted more : List Acceptance) (id : ℕ) (a : Acceptance) → named accepted id ≡ Some a → waited_as (accepted ++ more) id ≡ waited_as accepted id
waited_still accepted more id a found = ap (option_map waiting_of) (find-append (λ (b : Acceptance). b.id == id) accepted more ∙ stays (named accepted id) (named more id) a found)
  where
    stays : (o other : Option Acceptance) (a : Acceptance) → o ≡ Some a → option_or o other ≡ o
    stays None other a e = absurd cc
    stays (Some b) other a e = refl

-- and those that found ids name
pub packets_stay : (accepted more : List Acceptance) (ids : List ℕ) → AreFound accepted ids → packets_named (accepted ++ more) ids ≡ packets_named accepted ids
packets_stay accepted more [] found = refl
packets_stay accepted more (id ∷ ids) found =
    let rest = packets_stay accepted more ids found.1 in
    let here = waited_still accepted more id found.0.0 found.0.1 in
    λ i. cons_option (here i) (rest i)

-- packets that are known are those that their ids name
pub packets_known : (accepted : List Acceptance) (ws : List Waiting) → AllByRecursion (IsKnown accepted) ws → packets_named accepted (map (λ (w : Waiting). w.id) ws) ≡ ws
packets_known accepted [] known = refl
packets_known accepted (w ∷ ws) known = let rest = packets_known accepted ws known.1 in λ i. cons_option (known.0 i) (rest i)

-- an event that is neither an acceptance nor a drop loses nothing
pub losses_same : (events : List Event) (e : Event) → acceptance_of e ≡ None → dropped_of e ≡ None → lost_packets (events ++ e ∷ []) ≡ lost_packets events
losses_same events e no_acceptance no_drop = λ i. packets_named (filter_map_same acceptance_of events e no_acceptance i) (filter_map_same dropped_of events e no_drop i)

-- nor does an acceptance, where each fate names an accepted id
pub losses_accept : (events : List Event) (id moment lane flow : ℕ) (packet : PacketParts) → AreFound (acceptances events) (fate_ids events)
    → lost_packets (events ++ Accepted lane id moment flow packet ∷ []) ≡ lost_packets events
losses_accept events id moment lane flow packet found =
    let e : Event = Accepted lane id moment flow packet in
    let a : Acceptance = record { id = id; moment = moment; lane = lane; flow = flow; packet = packet } in
    let known = (fate_parts (λ i. (b : Acceptance) × (named (acceptances events) i ≡ Some b)) events found).1 in
    (λ i. packets_named (filter_map_push acceptance_of events e a refl i) (filter_map_same dropped_of events e refl i))
    ∙ packets_stay (acceptances events) (a ∷ []) (filter_map dropped_of events) known

-- drops accept nothing, and drop their packets
pub drops_accept_none : (moment : ℕ) (why : Cause) (ws : List Waiting) → acceptances (map (drop_event moment why) ws) ≡ []
drops_accept_none moment why [] = refl
drops_accept_none moment why (w ∷ ws) = drops_accept_none moment why ws

pub drops_accepted : (moment : ℕ) (why : Cause) (events : List Event) (ws : List Waiting) → acceptances (events ++ map (drop_event moment why) ws) ≡ acceptances events
drops_accepted moment why events ws =
    filter_map-append acceptance_of events (map (drop_event moment why) ws) ∙ ap (λ l. acceptances events ++ l) (drops_accept_none moment why ws) ∙ append-nil (acceptances events)

dropped_ids : (moment : ℕ) (why : Cause) (ws : List Waiting) → filter_map dropped_of (map (drop_event moment why) ws) ≡ map (λ (w : Waiting). w.id) ws
dropped_ids moment why [] = refl
dropped_ids moment why (w ∷ ws) = ap (λ ids. w.id ∷ ids) (dropped_ids moment why ws)

-- known packets that are dropped are lost
pub losses_drops : (moment : ℕ) (why : Cause) (events : List Event) (ws : List Waiting) → AllByRecursion (IsKnown (acceptances events)) ws
    → lost_packets (events ++ map (drop_event moment why) ws) ≡ lost_packets events ++ ws
losses_drops moment why events ws known =
    let drops = map (drop_event moment why) ws in
    let accepted = acceptances events in
    let ids : filter_map dropped_of (events ++ drops) ≡ filter_map dropped_of events ++ map (λ (w : Waiting). w.id) ws =
    filter_map-append dropped_of events drops ∙ ap (λ l. filter_map dropped_of events ++ l) (dropped_ids moment why ws) in
    (λ i. packets_named (drops_accepted moment why events ws i) (ids i))
    ∙ filter_map-append (waited_as accepted) (filter_map dropped_of events) (map (λ (w : Waiting). w.id) ws)
    ∙ ap (λ l. packets_named accepted (filter_map dropped_of events) ++ l) (packets_known accepted ws known)

-- Departures, event by event: what leaves no packet leaves the list as it was.
pub departures_same : (events : List Event) (e : Event) → acceptance_of e ≡ None → ((accepted : List Acceptance) → left_as accepted e ≡ None) → departed_packets (events ++ e ∷ []) ≡ departed_packets events
departures_same events e no_acceptance none =
    (λ i. filter_map (left_as (filter_map_same acceptance_of events e no_acceptance i)) (events ++ e ∷ [])) ∙ filter_map_same (left_as (acceptances events)) events e (none (acceptances events))

-- more acceptances leave the packets that departed
departed_stay : (accepted more : List Acceptance) (events : List Event) → AreFound accepted (fate_ids events) → filter_map (left_as (accepted ++ more)) events ≡ filter_map (left_as accepted) events
departed_stay accepted more [] found = refl
departed_stay accepted more (Accepted lane id moment flow packet ∷ events) found = departed_stay accepted more events found
departed_stay accepted more (Sent id moment ecn mark ∷ events) found =
    let rest = departed_stay accepted more events found.1 in
    let here = ap (option_map (with_field ecn)) (waited_still accepted more id found.0.0 found.0.1) in
    λ i. cons_option (here i) (rest i)
departed_stay accepted more (Dropped id moment cause ∷ events) found = departed_stay accepted more events found.1
departed_stay accepted more (Closed moment ∷ events) found = departed_stay accepted more events found

pub departures_accept : (events : List Event) (id moment lane flow : ℕ) (packet : PacketParts) → AreFound (acceptances events) (fate_ids events)
    → departed_packets (events ++ Accepted lane id moment flow packet ∷ []) ≡ departed_packets events
departures_accept events id moment lane flow packet found =
    let e : Event = Accepted lane id moment flow packet in
    let a : Acceptance = record { id = id; moment = moment; lane = lane; flow = flow; packet = packet } in
    (λ i. filter_map (left_as (filter_map_push acceptance_of events e a refl i)) (events ++ e ∷ []))
    ∙ filter_map_same (left_as (acceptances events ++ a ∷ [])) events e refl
    ∙ departed_stay (acceptances events) (a ∷ []) events found

-- no drop leaves
drops_leave_none : (accepted : List Acceptance) (moment : ℕ) (why : Cause) (ws : List Waiting) → filter_map (left_as accepted) (map (drop_event moment why) ws) ≡ []
drops_leave_none accepted moment why [] = refl
drops_leave_none accepted moment why (w ∷ ws) = drops_leave_none accepted moment why ws

pub departures_drops : (moment : ℕ) (why : Cause) (events : List Event) (ws : List Waiting) → departed_packets (events ++ map (drop_event moment why) ws) ≡ departed_packets events
departures_drops moment why events ws =
    let drops = map (drop_event moment why) ws in
    (λ i. filter_map (left_as (drops_accepted moment why events ws i)) (events ++ drops))
    ∙ filter_map-append (left_as (acceptances events)) events drops
    ∙ ap (λ l. departed_packets events ++ l) (drops_leave_none (acceptances events) moment why ws)
    ∙ append-nil (departed_packets events)

-- a known packet that is sent leaves, with the field that it is sent with
pub departures_send : (events : List Event) (w : Waiting) (moment : ℕ) (ecn : Ecn) (mark : Mark) → IsKnown (acceptances events) w
    → departed_packets (events ++ Sent w.id moment ecn mark ∷ []) ≡ departed_packets events ++ with_field ecn w ∷ []
departures_send events w moment ecn mark known =
    let e : Event = Sent w.id moment ecn mark in
    (λ i. filter_map (left_as (filter_map_same acceptance_of events e refl i)) (events ++ e ∷ []))
    ∙ filter_map_push (left_as (acceptances events)) events e (with_field ecn w) (ap (option_map (with_field ecn)) known)
