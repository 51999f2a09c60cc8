-- No packet has its fate before it came.
use Rattle.std.proofs.Common.{◌≡◌, ℕ, ◌+◌, ◌/◌, ◌<◌, ◌≤◌, ◌⊎◌, true, false, All, List, [], ◌∷◌, ◌++◌, length, map, get_or, Option, Some, None, MatchOption, refl, sym, ap, subst, ◌∙◌, inl, inr, arith, append_assoc, length-append}
use Rattle.std.specs.List.{AllByRecursion}
use Rattle.std.proofs.Math.Seq.{get_or-append_seam}
use Rattle.std.proofs.lemmas.Bool.{cases_lt}
use Rattle.std.proofs.lemmas.List.{length-map, map-append}
use Rattle.std.proofs.lemmas.List.Elements.{All-from_recursion, filter_map-append, recursion_from_All}
use Rattle.packet_core.specs.declared.packet.Waiting.{Waiting}
use Rattle.journal_core.specs.declared.event.Cause.{Cause}
use Rattle.journal_core.specs.declared.event.Cause.TheVariants as cause
use Rattle.journal_core.specs.declared.event.Event.{Event}
use Rattle.journal_core.specs.declared.outcome.Answer.{Answer}
use Rattle.journal_core.specs.declared.outcome.Answer.TheVariants as answer
use Rattle.journal_core.specs.declared.step.Refusal.{Refusal}
use Rattle.journal_core.specs.declared.step.Step.{Step}
use Rattle.journal_core.specs.declared.step.Step.TheVariants.{Enqueue, Dequeue}
use Rattle.journal_core.specs.Disciplines.{Discipline, Given}
use Rattle.journal_core.specs.Happened.{fate_ids, fate_of}
use Rattle.journal_core.specs.Runs.{Made, Runs, is_refused, journal_of}
use Rattle.journal_core.specs.State.{State, opening_state, refusal_of}
use Rattle.journal_core.specs.Steps.{Makes, Steps, drop_event, sent_events}
use Rattle.journal_core.proofs.ListLemmas.{ByRecursion-append, ByRecursion-parts}
use Rattle.journal_core.proofs.RefusalLemmas.{dequeue_next, enqueue_open}
use Rattle.link_core.specs.declared.arrival.Arrival.{Arrival}
use Rattle.link_core.specs.declared.link.LinkFields.{LinkFields}
use Rattle.link_core.specs.Arrivals.{arrival_moment, moment_at}
use Rattle.link_core.specs.LinkLaw.{Follows, LinkPoint, LinkState, MovesFrom}
use Rattle.link_core.specs.LinkLaw.LinkState.{idle, asks, free}
use Rattle.link_core.specs.LinkLaws.{FollowsArrival}
use Rattle.link_core.specs.LinkRuns.{IsLinkRunOf}
use Rattle.link_core.proofs.SentIds.{fates_behind}

-- a step of a link is one of two kinds
pub record BringsNext (coming : List Arrival) (step : Step) (new : LinkPoint) : Type 0 where
  pub next : Arrival
  pub rest : List Arrival
  pub first : coming ≡ next ∷ rest
  pub enqueues : step ≡ Enqueue next.moment 0 next.packet
  pub left : new.coming ≡ rest

pub record AsksNext (coming : List Arrival) (step : Step) (new : LinkPoint) : Type 0 where
  pub moment : ℕ
  pub dequeues : step ≡ Dequeue moment
  pub left : new.coming ≡ coming

pub kind_of : (link : LinkFields) (arrivals : List Arrival) (state : LinkState) (coming : List Arrival) (step : Step) (events : List Event) (new : LinkPoint) → MovesFrom link arrivals state coming step events new
    → BringsNext coming step new ⊎ AsksNext coming step new
kind_of link arrivals idle [] step events new m = absurd m
kind_of link arrivals idle (a ∷ rest) step events new m = inl (record { next = a; rest = rest; first = refl; enqueues = m.enqueues; left = ap (λ (x : LinkPoint). x.coming) m.leads })
kind_of link arrivals (asks t) coming step events new m = inr (record { moment = t; dequeues = m.dequeues; left = ap (λ (x : LinkPoint). x.coming) m.leads })
kind_of link arrivals (free u) [] step events new m = inr (record { moment = u / link.rate; dequeues = m.dequeues; left = ap (λ (x : LinkPoint). x.coming) m.leads })
kind_of link arrivals (free u) (a ∷ rest) step events new (inl m) = inl (record { next = a; rest = rest; first = refl; enqueues = m.1.enqueues; left = ap (λ (x : LinkPoint). x.coming) m.1.leads })
kind_of link arrivals (free u) (a ∷ rest) step events new (inr m) = inr (record { moment = u / link.rate; dequeues = m.1.dequeues; left = ap (λ (x : LinkPoint). x.coming) m.1.leads })

module _ (arrivals : List Arrival) where
  -- the first so many arrivals came at that moment at the latest
  abbrev pub Came : ℕ → ℕ → Type 0
  Came n last = (id : ℕ) → id < n → moment_at arrivals id ≤ last

  drops_follow : (n moment : ℕ) (why : Cause) (gone : List Waiting) → Came n moment → AllByRecursion (λ id. id < n) (fate_ids (map (drop_event moment why) gone)) → AllByRecursion (FollowsArrival arrivals) (map (drop_event moment why) gone)
  drops_follow n moment why [] came known = tt
  drops_follow n moment why (w ∷ gone) came known = (came w.id known.0, drops_follow n moment why gone came known.1)

  sent_follows : (n moment : ℕ) (given : Option Given) → Came n moment → AllByRecursion (λ id. id < n) (fate_ids (sent_events moment given)) → AllByRecursion (FollowsArrival arrivals) (sent_events moment given)
  sent_follows n moment None came known = tt
  sent_follows n moment (Some g) came known = (came g.waiting.id known.0, tt)

  served_follow : (n moment : ℕ) (gone : List Waiting) (given : Option Given) → Came n moment → AllByRecursion (λ id. id < n) (fate_ids (map (drop_event moment cause.Codel) gone ++ sent_events moment given))
      → AllByRecursion (FollowsArrival arrivals) (map (drop_event moment cause.Codel) gone ++ sent_events moment given)
  served_follow n moment gone given came known =
      let parts = ByRecursion-parts (λ id. id < n) (fate_ids (map (drop_event moment cause.Codel) gone)) (fate_ids (sent_events moment given))
      (subst (AllByRecursion (λ id. id < n)) (filter_map-append fate_of (map (drop_event moment cause.Codel) gone) (sent_events moment given)) known) in
      ByRecursion-append (FollowsArrival arrivals) (map (drop_event moment cause.Codel) gone) (sent_events moment given) (drops_follow n moment cause.Codel gone came parts.0) (sent_follows n moment given came parts.1)

  -- what has come of the arrivals, where that is still to come
  pub record IsMet {Q : Type 0} (coming : List Arrival) (s : State Q) : Type 0 where
    pub met : List Arrival
    pub split : arrivals ≡ met ++ coming
    pub ids : length met ≡ s.next_id
    pub came : Came s.next_id s.last

  -- the next packet's moment stands in its place
  moment_there : (met : List Arrival) (a : Arrival) (rest : List Arrival) → arrivals ≡ met ++ a ∷ rest → moment_at arrivals (length met) ≡ a.moment
  moment_there met a rest split =
      let all : map arrival_moment arrivals ≡ map arrival_moment met ++ a.moment ∷ map arrival_moment rest = ap (map arrival_moment) split ∙ map-append arrival_moment met (a ∷ rest) in
      let there = get_or-append_seam (map arrival_moment met) a.moment (map arrival_moment rest) 0 in
      ap (λ (l : List ℕ). get_or l (length met) 0) all ∙ (let e : get_or (map arrival_moment met ++ a.moment ∷ map arrival_moment rest) (length met) 0 ≡ a.moment = rw (length-map met arrival_moment) at there in e)

  met_more : (met : List Arrival) (a : Arrival) (rest : List Arrival) (n last : ℕ) → arrivals ≡ met ++ a ∷ rest → length met ≡ n → last ≤ a.moment → Came n last → Came (n + 1) a.moment
  met_more met a rest n last split ids later came id below =
      let there = moment_there met a rest split in
      elim (cases_lt id n) [
        | inl low ↦ let early = came id low in omega arith
        | inr high ↦
            let same : id ≡ length met = omega arith in
            let its : moment_at arrivals id ≡ a.moment = ap (moment_at arrivals) same ∙ there in
            omega arith
      ]

  met_later : (n last moment : ℕ) → last ≤ moment → Came n last → Came n moment
  met_later n last moment later came id below = let early = came id below in omega arith

-- whatever the discipline is
module _ {Q : Type 0} (d : Discipline Q) (arrivals : List Arrival) where
  -- behind a step
  record IsMetBy (new : State Q) (made : List Event) (point : LinkPoint) : Type 0 where
    pub follow : AllByRecursion (FollowsArrival arrivals) made
    pub is_met : IsMet arrivals point.coming new

  makes_met : (old new : State Q) (coming : List Arrival) (step : Step) (said : Answer) (made : List Event) (point : LinkPoint)
      → refusal_of old step ≡ None → Makes d old step said made new → BringsNext coming step point ⊎ AsksNext coming step point
      → AllByRecursion (λ id. id < new.next_id) (fate_ids made) → IsMet arrivals coming old → IsMetBy new made point
  makes_met old new coming step said made point fits makes (inl b) known met =
      let a = b.next in
      let fits' = subst (λ (x : Step). refusal_of old x ≡ None) b.enqueues fits in
      let later = (enqueue_open old a.moment 0 a.packet fits').0.next.later in
      let m = subst (λ (x : Step). Makes d old x said made new) b.enqueues makes in
      let split : arrivals ≡ met.met ++ a ∷ b.rest = met.split ∙ ap (λ l. met.met ++ l) b.first in
      let came : Came arrivals (old.next_id + 1) a.moment = met_more arrivals met.met a b.rest old.next_id old.last split met.ids later met.came in
      let told = m.1.told in
      let known' = subst (λ n. AllByRecursion (λ id. id < n) (fate_ids made)) m.1.next_id known in
      let drops = subst (λ es. AllByRecursion (λ id. id < old.next_id + 1) (fate_ids es)) told known' in
      record {
        follow = rw told (tt, drops_follow arrivals (old.next_id + 1) a.moment cause.Overflow m.1.lost came drops);
        is_met = record {
          met = met.met ++ a ∷ [];
          split = split ∙ sym (append_assoc met.met (a ∷ []) b.rest) ∙ ap (λ l. (met.met ++ a ∷ []) ++ l) (sym b.left);
          ids = length-append met.met (a ∷ []) ∙ ap (λ n. n + 1) met.ids ∙ sym m.1.next_id;
          came = rw (m.1.next_id, m.1.last) came;
        };
      }
  makes_met old new coming step said made point fits makes (inr q) known met =
      let fits' = subst (λ (x : Step). refusal_of old x ≡ None) q.dequeues fits in
      let later = (dequeue_next old q.moment fits').later in
      let m = subst (λ (x : Step). Makes d old x said made new) q.dequeues makes in
      let s = m.2 in
      let came : Came arrivals old.next_id q.moment = met_later arrivals old.next_id old.last q.moment later met.came in
      let known' = subst (λ n. AllByRecursion (λ id. id < n) (fate_ids made)) s.next_id known in
      record {
        follow = rw s.told (served_follow arrivals old.next_id q.moment s.dropped m.0 came (subst (λ es. AllByRecursion (λ id. id < old.next_id) (fate_ids es)) s.told known'));
        is_met = record {
          met = met.met;
          split = met.split ∙ ap (λ l. met.met ++ l) (sym q.left);
          ids = met.ids ∙ sym s.next_id;
          came = rw (s.next_id, s.last) came;
        };
      }

  step_met : (old new : State Q) (coming : List Arrival) (step : Step) (said : Answer) (made : List Event) (point : LinkPoint)
      → Steps d old step said made new → is_refused said ≡ false → BringsNext coming step point ⊎ AsksNext coming step point
      → AllByRecursion (λ id. id < new.next_id) (fate_ids made) → IsMet arrivals coming old → IsMetBy new made point
  step_met old new coming step said made point s accepted kind known met = go (refusal_of old step) refl s
    where
      go : (o : Option Refusal) → refusal_of old step ≡ o → MatchOption o (Makes d old step said made new) (λ r. (said ≡ answer.Refused r) × (made ≡ []) × (new ≡ old)) → IsMetBy new made point
      go None fits m = makes_met old new coming step said made point fits m kind known met
      go (Some r) fits m = let t : true ≡ false = sym (ap is_refused m.0) ∙ accepted in absurd cc

-- A fact of the state and the journal that each step keeps, and by which only packets that came have a fate.
module _ {Q : Type 0} (d : Discipline Q) (Keeps : State Q → List Event → Type 0)
    (keeps : (old new : State Q) (step : Step) (said : Answer) (made events : List Event) → Steps d old step said made new → Keeps old events → Keeps new (events ++ made))
    (known_of : (s : State Q) (events : List Event) → Keeps s events → AllByRecursion (λ id. id < s.next_id) (fate_ids events))
    (link : LinkFields) (arrivals : List Arrival) where
  follow_all : (steps : List Step) (made : List Made) (point end : LinkPoint) (old new : State Q) (events : List Event)
      → Follows link arrivals point steps made end → Runs d old steps made new → AllByRecursion (λ (m : Made). is_refused m.answer ≡ false) made
      → Keeps old events → IsMet arrivals point.coming old → AllByRecursion (FollowsArrival arrivals) (journal_of made)
  follow_all [] [] point end old new events f r accepted h met = tt
  follow_all [] (m ∷ made) point end old new events f r accepted h met = absurd f
  follow_all (step ∷ steps) [] point end old new events f r accepted h met = absurd f
  follow_all (step ∷ steps) (m ∷ made) point end old new events f r accepted h met =
      let h' = keeps old r.0 step m.answer m.events events r.1 h in
      let known = fates_behind (λ id. id < r.0.next_id) events m.events (known_of r.0 (events ++ m.events) h') in
      let next = step_met d arrivals old r.0 point.coming step m.answer m.events f.0 r.1 accepted.0 (kind_of link arrivals point.state point.coming step m.events f.0 f.1) known met in
      ByRecursion-append (FollowsArrival arrivals) m.events (journal_of made) next.follow
      (follow_all steps made f.0 end r.0 new (events ++ m.events) f.2 r.2 accepted.1 h' next.is_met)

  -- a whole run
  pub run_follows : (steps : List Step) (made : List Made) (last : State Q) → Keeps (opening_state d.opening) [] → IsLinkRunOf d link arrivals steps made last → All (FollowsArrival arrivals) (journal_of made)
  run_follows steps made last opens run =
      All-from_recursion (FollowsArrival arrivals) (journal_of made)
      (follow_all steps made (record { state = idle; coming = arrivals }) (record { state = idle; coming = [] }) (opening_state d.opening) last [] run.law run.runs (recursion_from_All (λ (m : Made). is_refused m.answer ≡ false) made run.none_refused)
      opens (record { met = []; split = refl; ids = refl; came = λ id below. absurd (omega arith) }))
