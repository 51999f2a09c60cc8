-- How many events a link's run has: one for each arrival, and one for each fate.
use Rattle.std.proofs.Common.{◌≡◌, ℕ, suc, ◌+◌, ◌*◌, ◌≤◌, ◌⊎◌, true, false, List, [], ◌∷◌, ◌++◌, length, map, Option, Some, None, MatchOption, refl, sym, ap, subst, ◌∙◌, inl, inr, arith, length-append}
use Rattle.std.specs.List.{AllByRecursion}
use Rattle.std.proofs.lemmas.List.Elements.{filter_map-append, recursion_from_All}
use Rattle.packet_core.specs.declared.packet.Waiting.{Waiting}
use Rattle.journal_core.specs.declared.event.Cause.{Cause}
use Rattle.journal_core.specs.declared.event.Cause.TheVariants as cause
use Rattle.journal_core.specs.declared.event.Event.{Event}
use Rattle.journal_core.specs.declared.outcome.Answer.{Answer}
use Rattle.journal_core.specs.declared.outcome.Answer.TheVariants as answer
use Rattle.journal_core.specs.declared.step.Refusal.{Refusal}
use Rattle.journal_core.specs.declared.step.Step.{Step}
use Rattle.journal_core.specs.Disciplines.{Discipline, Given}
use Rattle.journal_core.specs.Happened.{fate_ids, fate_of}
use Rattle.journal_core.specs.Runs.{Made, Runs, is_refused, journal_of}
use Rattle.journal_core.specs.State.{State, opening_state, refusal_of}
use Rattle.journal_core.specs.Steps.{Makes, Steps, drop_event, sent_events}
use Rattle.link_core.specs.declared.arrival.Arrival.{Arrival}
use Rattle.link_core.specs.declared.link.LinkFields.{LinkFields}
use Rattle.link_core.specs.LinkLaw.{Follows, LinkPoint}
use Rattle.link_core.specs.LinkLaw.LinkState.{idle}
use Rattle.link_core.specs.LinkRuns.{IsLinkRunOf}
use Rattle.link_core.proofs.Causality.{AsksNext, BringsNext, kind_of}

-- all events of drops are fates
drops_counted : (moment : ℕ) (why : Cause) (gone : List Waiting) → length (map (drop_event moment why) gone) ≡ length (fate_ids (map (drop_event moment why) gone))
drops_counted moment why [] = refl
drops_counted moment why (w ∷ gone) = ap suc (drops_counted moment why gone)

-- and so are all events of a dequeue
served_counted : (moment : ℕ) (why : Cause) (gone : List Waiting) (given : Option Given) → length (map (drop_event moment why) gone ++ sent_events moment given) ≡ length (fate_ids (map (drop_event moment why) gone ++ sent_events moment given))
served_counted moment why [] None = refl
served_counted moment why [] (Some g) = refl
served_counted moment why (w ∷ gone) given = ap suc (served_counted moment why gone given)

-- From one point to another, each arrival that came was given an id. The events are one for each of these and one for
-- each fate.
pub record IsCounted {Q : Type 0} (old new : State Q) (coming left : List Arrival) (made : List Event) : Type 0 where
  pub events : length made + old.next_id ≡ length (fate_ids made) + new.next_id
  pub ids : new.next_id + length left ≡ old.next_id + length coming

-- whatever the discipline is
module _ {Q : Type 0} (d : Discipline Q) where
  makes_counted : (old new : State Q) (coming : List Arrival) (step : Step) (said : Answer) (made : List Event) (point : LinkPoint) → Makes d old step said made new → BringsNext coming step point ⊎ AsksNext coming step point
      → IsCounted old new coming point.coming made
  makes_counted old new coming step said made point makes (inl b) =
      let a = b.next in
      let m = (subst (λ (x : Step). Makes d old x said made new) b.enqueues makes).1 in
      let drops = map (drop_event a.moment cause.Overflow) m.lost in
      let counted : length drops ≡ length (fate_ids drops) = drops_counted a.moment cause.Overflow m.lost in
      let all : length made ≡ suc (length drops) = ap length m.told in
      let fates : length (fate_ids made) ≡ length (fate_ids drops) = ap (λ (es : List Event). length (fate_ids es)) m.told in
      let next : new.next_id ≡ old.next_id + 1 = m.next_id in
      let came : length coming ≡ suc (length b.rest) = ap length b.first in
      let left : length point.coming ≡ length b.rest = ap length b.left in
      record { events = omega arith; ids = omega arith }
  makes_counted old new coming step said made point makes (inr q) =
      let m = subst (λ (x : Step). Makes d old x said made new) q.dequeues makes in
      let s = m.2 in
      let counted : length made ≡ length (fate_ids made) = rw s.told (served_counted q.moment cause.Codel s.dropped m.0) in
      let next : new.next_id ≡ old.next_id = s.next_id in
      let left : length point.coming ≡ length coming = ap length q.left in
      record { events = omega arith; ids = omega arith }

  step_counted : (old new : State Q) (coming : List Arrival) (step : Step) (said : Answer) (made : List Event) (point : LinkPoint) → Steps d old step said made new → is_refused said ≡ false → BringsNext coming step point ⊎ AsksNext coming step point
      → IsCounted old new coming point.coming made
  step_counted old new coming step said made point s accepted kind = go (refusal_of old step) s
    where
      go : (o : Option Refusal) → MatchOption o (Makes d old step said made new) (λ r. (said ≡ answer.Refused r) × (made ≡ []) × (new ≡ old)) → IsCounted old new coming point.coming made
      go None m = makes_counted old new coming step said made point m kind
      go (Some r) m = let t : true ≡ false = sym (ap is_refused m.0) ∙ accepted in absurd cc

  module _ (link : LinkFields) (arrivals : List Arrival) where
    all_counted : (steps : List Step) (made : List Made) (point end : LinkPoint) (old new : State Q) → Follows link arrivals point steps made end → Runs d old steps made new → AllByRecursion (λ (m : Made). is_refused m.answer ≡ false) made
        → IsCounted old new point.coming end.coming (journal_of made)
    all_counted [] [] point end old new f r accepted = rw (f, r) (record { events = refl; ids = refl })
    all_counted [] (m ∷ made) point end old new f r accepted = absurd f
    all_counted (step ∷ steps) [] point end old new f r accepted = absurd f
    all_counted (step ∷ steps) (m ∷ made) point end old new f r accepted =
        let kind = kind_of link arrivals point.state point.coming step m.events f.0 f.1 in
        let here = step_counted old r.0 point.coming step m.answer m.events f.0 r.1 accepted.0 kind in
        let rest = all_counted steps made f.0 end r.0 new f.2 r.2 accepted.1 in
        let all : length (journal_of (m ∷ made)) ≡ length m.events + length (journal_of made) = length-append m.events (journal_of made) in
        let fates : length (fate_ids (journal_of (m ∷ made))) ≡ length (fate_ids m.events) + length (fate_ids (journal_of made)) =
        ap length (filter_map-append fate_of m.events (journal_of made)) ∙ length-append (fate_ids m.events) (fate_ids (journal_of made)) in
        record { events = omega arith; ids = omega arith }

    -- where no more have a fate than came, there are two events at most for each arrival
    pub few_in_run : (steps : List Step) (made : List Made) (last : State Q) → IsLinkRunOf d link arrivals steps made last → length (fate_ids (journal_of made)) ≤ last.next_id → length (journal_of made) ≤ 2 * length arrivals
    few_in_run steps made last run fated =
        let all = all_counted steps made (record { state = idle; coming = arrivals }) (record { state = idle; coming = [] }) (opening_state d.opening) last run.law run.runs (recursion_from_All (λ (m : Made). is_refused m.answer ≡ false) made run.none_refused) in
        let events : length (journal_of made) + 0 ≡ length (fate_ids (journal_of made)) + last.next_id = all.events in
        let ids : last.next_id + 0 ≡ 0 + length arrivals = all.ids in
        omega arith
