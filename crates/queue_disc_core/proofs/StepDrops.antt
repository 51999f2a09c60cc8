-- The drops of a step.
use Rattle.std.proofs.Common.{◌≡◌, ℕ, ◌+◌, ◌≤◌, false, List, [], ◌∷◌, ◌++◌, length, map, Option, Some, None, refl, ap, sym, subst, ◌∙◌, arith}
use Rattle.std.specs.List.{list_any}
use Rattle.std.proofs.lemmas.List.{length-append}
use Rattle.std.proofs.lemmas.List.Elements.{filter_map-append}
use Rattle.packet_core.specs.Packets.{PacketParts}
use Rattle.packet_core.specs.declared.packet.Waiting.{Waiting}
use Rattle.journal_core.specs.declared.event.Cause.{Cause}
use Rattle.journal_core.specs.declared.event.Event.{Event}
use Rattle.journal_core.specs.declared.outcome.Answer.TheVariants as answer
use Rattle.journal_core.specs.declared.step.Sent.{Sent}
use Rattle.journal_core.specs.declared.step.Step.TheVariants.{Close, Enqueue}
use Rattle.journal_core.specs.Calls.{Advances, Gives, Standing}
use Rattle.journal_core.specs.Disciplines.{Discipline, Given}
use Rattle.journal_core.specs.Steps.{drop_event, sent_events}
use Rattle.queue_disc_core.specs.Drops.{cause_of, causes_of, is_accepted, settled_drops}
use Rattle.queue_disc_core.proofs.SettledDrops.{settled_accept, settled_stays}

-- no drop is gone, and so many of the new ones are settled
pub record Settles (old new : List Event) (n : ℕ) : Type 0 where
  pub settled : settled_drops new ≡ n
  pub more : length (causes_of old) ≤ length (causes_of new)

causes_grow : (old made : List Event) → length (causes_of old) ≤ length (causes_of (old ++ made))
causes_grow old made =
    let size : length (causes_of (old ++ made)) ≡ length (causes_of old) + length (causes_of made) = ap length (filter_map-append cause_of old made) ∙ length-append (causes_of old) (causes_of made) in
    omega arith

none_accepted : (moment : ℕ) (why : Cause) (ws : List Waiting) (more : List Event) → list_any is_accepted more ≡ false → list_any is_accepted (map (drop_event moment why) ws ++ more) ≡ false
none_accepted moment why [] more none = none
none_accepted moment why (w ∷ ws) more none = none_accepted moment why ws more none

none_among_drops : (moment : ℕ) (why : Cause) (ws : List Waiting) → list_any is_accepted (map (drop_event moment why) ws) ≡ false
none_among_drops moment why [] = refl
none_among_drops moment why (w ∷ ws) = none_among_drops moment why ws

none_sent_accepted : (moment : ℕ) (given : Option Given) → list_any is_accepted (sent_events moment given) ≡ false
none_sent_accepted moment None = refl
none_sent_accepted moment (Some g) = refl

module _ {Q : Type 0} (d : Discipline Q) (old new : Standing Q) (moment : ℕ) where
  pub enqueue_settles : (lane : ℕ) (packet : PacketParts) → Advances d old (Enqueue moment lane packet) answer.Accepted new → Settles old.events new.events (length (causes_of old.events))
  enqueue_settles lane packet a =
      let told = a.makes.1.told in
      let journal = a.journal ∙ ap (λ es. old.events ++ es) told in
      record {
        settled = ap settled_drops journal ∙ settled_accept _ _ _ _ _ _ old.events (none_among_drops moment _ a.makes.1.lost);
        more = subst (λ (es : List Event). length (causes_of old.events) ≤ length (causes_of es)) (sym a.journal) (causes_grow old.events a.made);
      }

  pub dequeue_settles : (sent : Option Sent) → Gives d old moment sent new → Settles old.events new.events (settled_drops old.events)
  dequeue_settles sent g =
      let journal = g.journal ∙ ap (λ es. old.events ++ es) g.serves.told in
      record {
        settled = ap settled_drops journal ∙ settled_stays old.events _ (none_accepted moment _ g.serves.dropped (sent_events moment g.given) (none_sent_accepted moment g.given));
        more = subst (λ (es : List Event). length (causes_of old.events) ≤ length (causes_of es)) (sym g.journal) (causes_grow old.events g.made);
      }

  pub close_settles : Advances d old (Close moment) answer.Closed new → Settles old.events new.events (settled_drops old.events)
  close_settles a =
      let journal = a.journal ∙ ap (λ es. old.events ++ es) a.makes.1.told in
      record {
        settled = ap settled_drops journal ∙ settled_stays old.events _ refl;
        more = subst (λ (es : List Event). length (causes_of old.events) ≤ length (causes_of es)) (sym a.journal) (causes_grow old.events a.made);
      }
