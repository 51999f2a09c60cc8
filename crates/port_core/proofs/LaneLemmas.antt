-- What lanes accept, and lanes that were just made.
use Rattle.std.proofs.Common.{◌≡◌, ◌∙◌, ◌==◌, ℕ, ◌+◌, ◌<◌, Bool, true, false, List, [], ◌∷◌, ◌++◌, Option, Some, None, cond, map, refl, ap, sym, append-nil, arith, ⊎_elim, length-append}
use Rattle.std.specs.List.{filter_map}
use Rattle.std.proofs.lemmas.Bool.Decides.{eqb_tells}
use Rattle.std.proofs.lemmas.List.{get_or_append_left, get_or_push, map-append}
use Rattle.std.proofs.lemmas.List.Elements.{filter-append, filter_map-append}
use Rattle.packet_core.specs.Packets.{PacketParts}
use Rattle.packet_core.specs.declared.packet.Waiting.{Waiting}
use Rattle.journal_core.specs.declared.event.Cause.{Cause}
use Rattle.journal_core.specs.declared.event.Cause.TheVariants as cause
use Rattle.journal_core.specs.declared.event.Event.{Event}
use Rattle.journal_core.specs.declared.event.Event.TheVariants as event
use Rattle.journal_core.specs.declared.outcome.Answer.TheVariants as answer
use Rattle.journal_core.specs.declared.step.Sent.{Sent}
use Rattle.journal_core.specs.declared.step.Step.TheVariants.{Close, Enqueue}
use Rattle.journal_core.specs.Calls.{Advances, Gives, Standing}
use Rattle.journal_core.specs.Disciplines.{Discipline, Given}
use Rattle.journal_core.specs.Happened.{acceptance_of, acceptances}
use Rattle.journal_core.specs.Steps.{drop_event, sent_events}
use Rattle.port_core.specs.Devices.{AreNewEnds, AreNewLanes}
use Rattle.port_core.specs.Lanes.{LaneView, Sending, accepted}
use Rattle.port_core.specs.Ports.{is_of, of_lane}

accepted-append : (lane : ℕ) (one other : List Event) → accepted lane (one ++ other) ≡ accepted lane one ++ accepted lane other
accepted-append lane one other =
    ap (λ es. map (λ a. a.packet) (filter_map acceptance_of es)) (filter-append (is_of lane) one other)
    ∙ ap (map (λ a. a.packet)) (filter_map-append acceptance_of (of_lane lane one) (of_lane lane other))
    ∙ map-append (λ a. a.packet) (acceptances (of_lane lane one)) (acceptances (of_lane lane other))

none_of_drops : (lane moment : ℕ) (why : Cause) (ws : List Waiting) → of_lane lane (map (drop_event moment why) ws) ≡ []
none_of_drops lane moment why [] = refl
none_of_drops lane moment why (w ∷ ws) = none_of_drops lane moment why ws

none_sent : (lane moment : ℕ) (given : Option Given) → of_lane lane (sent_events moment given) ≡ []
none_sent lane moment None = refl
none_sent lane moment (Some g) = refl

-- an acceptance from a lane
one_accepted : (lane id moment from flow : ℕ) (packet : PacketParts) → accepted lane (event.Accepted from id moment flow packet ∷ []) ≡ cond (from == lane) (packet ∷ []) []
one_accepted lane id moment from flow packet = go (from == lane) refl
  where
    go : (b : Bool) → (from == lane) ≡ b → accepted lane (event.Accepted from id moment flow packet ∷ []) ≡ cond (from == lane) (packet ∷ []) []
    go true is = rw is refl
    go false is = rw is refl

-- events that are no acceptances of a lane add none
stays : (lane : ℕ) (old made new : List Event) → new ≡ old ++ made → accepted lane made ≡ [] → accepted lane new ≡ accepted lane old
stays lane old made new journal none = ap (accepted lane) journal ∙ accepted-append lane old made ∙ ap (λ ps. accepted lane old ++ ps) none ∙ append-nil (accepted lane old)

pub stays_served : {Q : Type 0} (d : Discipline Q) (old new : Standing Q) (moment : ℕ) (sent : Option Sent) → Gives d old moment sent new → (lane : ℕ) → accepted lane new.events ≡ accepted lane old.events
stays_served d old new moment sent g lane =
    let drops = map (drop_event moment cause.Codel) g.serves.dropped in
    let told = sent_events moment g.given in
    let none : accepted lane (drops ++ told) ≡ [] = accepted-append lane drops told ∙ (rw (none_of_drops lane moment cause.Codel g.serves.dropped, none_sent lane moment g.given) refl) in
    stays lane old.events g.made new.events g.journal (ap (accepted lane) g.serves.told ∙ none)

pub stays_closed : {Q : Type 0} (d : Discipline Q) (old new : Standing Q) (moment : ℕ) → Advances d old (Close moment) answer.Closed new → (lane : ℕ) → accepted lane new.events ≡ accepted lane old.events
stays_closed d old new moment a lane = stays lane old.events a.made new.events a.journal (ap (accepted lane) a.makes.1.told)

-- an enqueue from a lane adds its packet to what was accepted from that lane
pub grows_accepted : {Q : Type 0} (d : Discipline Q) (old new : Standing Q) (moment from : ℕ) (packet : PacketParts) → Advances d old (Enqueue moment from packet) answer.Accepted new
    → (lane : ℕ) → accepted lane new.events ≡ accepted lane old.events ++ cond (from == lane) (packet ∷ []) []
grows_accepted d old new moment from packet a lane =
    let first = event.Accepted from old.state.next_id moment (d.flow_of packet.tuple) packet in
    let drops = map (drop_event moment cause.Overflow) a.makes.1.lost in
    let no_drops : accepted lane drops ≡ [] = ap (λ es. map (λ x. x.packet) (filter_map acceptance_of es)) (none_of_drops lane moment cause.Overflow a.makes.1.lost) in
    let made : accepted lane a.made ≡ cond (from == lane) (packet ∷ []) [] =
    ap (accepted lane) a.makes.1.told ∙ accepted-append lane (first ∷ []) drops ∙ ap (λ ps. accepted lane (first ∷ []) ++ ps) no_drops ∙ append-nil (accepted lane (first ∷ []))
    ∙ one_accepted lane old.state.next_id moment from (d.flow_of packet.tuple) packet in
    ap (accepted lane) a.journal ∙ accepted-append lane old.events a.made ∙ ap (λ ps. accepted lane old.events ++ ps) made

-- before the first lane
pub lanes_none : (capacity : ℕ) → AreNewLanes [] [] 0 capacity
lanes_none capacity = record { senders_number = refl; lanes_number = refl; each = λ i s l less. absurd (omega (arith, less)) }

pub lanes_more : (ss : List Sending) (ls : List LaneView) (s : Sending) (l : LaneView) (n capacity : ℕ) → AreNewLanes ss ls n capacity → AreNewEnds s l n capacity
    → AreNewLanes (ss ++ s ∷ []) (ls ++ l ∷ []) (n + 1) capacity
lanes_more ss ls s l n capacity old new = record {
  senders_number = omega (arith, length-append ss (s ∷ []), old.senders_number);
  lanes_number = omega (arith, length-append ls (l ∷ []), old.lanes_number);
  each = λ i e d less. ⊎_elim
      (λ t. let a = get_or_push ss s e i (old.senders_number ∙ sym t.1) in let b = get_or_push ls l d i (old.lanes_number ∙ sym t.1) in
      rw (a, b, t.1) new)
      (λ t. let m = t.1 in let there : i < n = omega (arith, less, m) in
      let a = get_or_append_left ss (s ∷ []) e i (omega (arith, there, old.senders_number)) in
      let b = get_or_append_left ls (l ∷ []) d i (omega (arith, there, old.lanes_number)) in
      rw (a, b) (old.each i e d there))
      (eqb_tells i n);
}
