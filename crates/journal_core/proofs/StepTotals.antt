-- How many acceptances and how many sent packets a step adds to the statistics.
use Rattle.std.proofs.Common.{◌≡◌, ◌∙◌, refl, ap, subst, sym, ℕ, ◌+◌, List, [], ◌∷◌, ◌++◌, length, map, Option, Some, None, option_map, length-append, append-nil}
use Rattle.std.specs.List.{filter_map}
use Rattle.std.proofs.lemmas.List.Elements.{filter_map-append}
use Rattle.packet_core.specs.Packets.{PacketParts}
use Rattle.packet_core.specs.declared.packet.Waiting.{Waiting}
use Rattle.journal_core.specs.declared.event.Cause.{Cause}
use Rattle.journal_core.specs.declared.event.Cause.TheVariants as cause
use Rattle.journal_core.specs.declared.event.Event.{Event}
use Rattle.journal_core.specs.declared.outcome.Answer.TheVariants as answer
use Rattle.journal_core.specs.declared.step.Sent.{Sent}
use Rattle.journal_core.specs.declared.step.Step.TheVariants.{Enqueue, Close}
use Rattle.journal_core.specs.Calls.{Standing, Advances, Gives, sent_at}
use Rattle.journal_core.specs.Disciplines.{Discipline, Given}
use Rattle.journal_core.specs.Happened.{acceptance_of, acceptances}
use Rattle.journal_core.specs.Statistics.{sent_of, statistics}
use Rattle.journal_core.specs.Steps.{drop_event, sent_events}

-- so many more acceptances, and so many more sent packets
pub record Adds (accepted sent : ℕ) (old new : List Event) : Type 0 where
  pub accepted_more : (statistics new).accepted ≡ (statistics old).accepted + accepted
  pub sent_more : (statistics new).sent ≡ (statistics old).sent + sent

no_acceptance : (moment : ℕ) (why : Cause) (ws : List Waiting) → filter_map acceptance_of (map (drop_event moment why) ws) ≡ []
no_acceptance moment why [] = refl
no_acceptance moment why (w ∷ ws) = no_acceptance moment why ws

none_sent : (moment : ℕ) (why : Cause) (ws : List Waiting) → filter_map sent_of (map (drop_event moment why) ws) ≡ []
none_sent moment why [] = refl
none_sent moment why (w ∷ ws) = none_sent moment why ws

-- events at the end add what they tell
adds_events : (old made : List Event) (n m : ℕ) → length (filter_map acceptance_of made) ≡ n → length (filter_map sent_of made) ≡ m → Adds n m old (old ++ made)
adds_events old made n m accepted sent = record {
  accepted_more = ap length (filter_map-append acceptance_of old made) ∙ length-append (acceptances old) (filter_map acceptance_of made) ∙ ap (λ k. length (acceptances old) + k) accepted;
  sent_more = ap length (filter_map-append sent_of old made) ∙ length-append (filter_map sent_of old) (filter_map sent_of made) ∙ ap (λ k. length (filter_map sent_of old) + k) sent;
}

-- an enqueue accepts one packet and sends none
pub adds_accepted : {Q : Type 0} (d : Discipline Q) (old new : Standing Q) (moment lane : ℕ) (packet : PacketParts)
    → Advances d old (Enqueue moment lane packet) answer.Accepted new → Adds 1 0 old.events new.events
adds_accepted d old new moment lane packet a =
    subst (Adds 1 0 old.events) (sym a.journal) (adds_events old.events a.made 1 0 (rw (a.makes.1.told) (rw (no_acceptance moment cause.Overflow a.makes.1.lost) refl)) (rw (a.makes.1.told) (rw (none_sent moment cause.Overflow a.makes.1.lost) refl)))

-- a close does neither
pub adds_closed : {Q : Type 0} (d : Discipline Q) (old new : Standing Q) (moment : ℕ)
    → Advances d old (Close moment) answer.Closed new → Adds 0 0 old.events new.events
adds_closed d old new moment a =
    subst (Adds 0 0 old.events) (sym a.journal) (adds_events old.events a.made 0 0 (rw (a.makes.1.told) refl) (rw (a.makes.1.told) refl))

-- how many packets that is
abbrev pub given_count : Option Sent → ℕ
given_count None = 0
given_count (Some s) = 1

-- what a dequeue tells, by what it gives
tells_sent : (moment : ℕ) (dropped : List Waiting) (given : Option Given) (old : List Event)
    → Adds 0 (given_count (option_map (sent_at moment) given)) old (old ++ (map (drop_event moment cause.Codel) dropped ++ sent_events moment given))
tells_sent moment dropped None old =
    let drops = map (drop_event moment cause.Codel) dropped in
    adds_events old (drops ++ []) 0 0 (rw (append-nil drops, no_acceptance moment cause.Codel dropped) refl) (rw (append-nil drops, none_sent moment cause.Codel dropped) refl)
tells_sent moment dropped (Some g) old =
    let drops = map (drop_event moment cause.Codel) dropped in
    let told = sent_events moment (Some g) in
    adds_events old (drops ++ told) 0 1
    (rw (filter_map-append acceptance_of drops told, no_acceptance moment cause.Codel dropped) refl)
    (rw (filter_map-append sent_of drops told, none_sent moment cause.Codel dropped) refl)

-- a dequeue sends the packet that it gives, and accepts none
pub adds_sent : {Q : Type 0} (d : Discipline Q) (old new : Standing Q) (moment : ℕ) (sent : Option Sent)
    → Gives d old moment sent new → Adds 0 (given_count sent) old.events new.events
adds_sent d old new moment sent g =
    subst (λ s. Adds 0 (given_count s) old.events new.events) (sym g.told)
    (subst (Adds 0 (given_count (option_map (sent_at moment) g.given)) old.events) (sym (g.journal ∙ ap (λ es. old.events ++ es) g.serves.told))
    (tells_sent moment g.serves.dropped g.given old.events))
