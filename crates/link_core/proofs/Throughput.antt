-- Packets are sent one after another, each for as long as its work takes.
use Rattle.std.proofs.Common.{◌≡◌, ℕ, ◌+◌, ◌*◌, ◌/◌, ◌<◌, ◌≤◌, true, false, List, [], ◌∷◌, ◌++◌, map, sum_by, Option, Some, None, MatchOption, refl, sym, ap, subst, ◌∙◌, inl, inr, arith}
use Rattle.std.specs.List.{AllByRecursion, filter_map}
use Rattle.std.proofs.Math.Nat.{mul-div_left, mul-le-mul_left}
use Rattle.std.proofs.lemmas.List.Elements.{filter_map-append, recursion_from_All}
use Rattle.std.proofs.lemmas.List.Sums.{sum_by-cons}
use Rattle.packet_core.specs.Packets.{PacketParts}
use Rattle.packet_core.specs.declared.packet.Waiting.{Waiting}
use Rattle.journal_core.specs.declared.event.Cause.{Cause}
use Rattle.journal_core.specs.declared.event.Cause.TheVariants as cause
use Rattle.journal_core.specs.declared.event.Event.{Event}
use Rattle.journal_core.specs.declared.outcome.Answer.{Answer}
use Rattle.journal_core.specs.declared.outcome.Answer.TheVariants as answer
use Rattle.journal_core.specs.declared.step.Refusal.{Refusal}
use Rattle.journal_core.specs.declared.step.Step.{Step}
use Rattle.journal_core.specs.declared.step.Step.TheVariants.{Enqueue, Dequeue, Close}
use Rattle.journal_core.specs.Disciplines.{Discipline, Given}
use Rattle.journal_core.specs.Runs.{Made, Runs, is_refused, journal_of}
use Rattle.journal_core.specs.State.{State, opening_state, refusal_of}
use Rattle.journal_core.specs.Statistics.{sent_of}
use Rattle.journal_core.specs.Steps.{Makes, Steps, drop_event, sent_events}
use Rattle.link_core.specs.declared.arrival.Arrival.{Arrival}
use Rattle.link_core.specs.declared.link.LinkFields.{LinkFields}
use Rattle.link_core.specs.LinkLaw.{Follows, LinkPoint, LinkState, MovesFrom, after_ids}
use Rattle.link_core.specs.LinkLaw.LinkState.{idle, asks, free}
use Rattle.link_core.specs.LinkLaws.{AreSentInTurn, Sending, sending_of, sendings, work_of}
use Rattle.link_core.specs.Arrivals.{AreArrivals}
use Rattle.link_core.specs.LinkRuns.{IsLinkRunOf}
use Rattle.link_core.specs.Links.{IsLink}
use Rattle.link_core.specs.Underway.{AreComing}
use Rattle.link_core.proofs.LinkTimes.{all_come}
use Rattle.link_core.proofs.SentIds.{given_ids, sent_ids_none, sent_ids_of}

-- a time and its whole microseconds
floor_low : (rate moment start : ℕ) → 0 < rate → moment ≡ start / rate → rate * moment ≤ start
floor_low rate moment start some is = rw is (omega arith)

floor_high : (rate moment start : ℕ) → 0 < rate → moment ≡ start / rate → start < rate * (moment + 1)
floor_high rate moment start some is = rw is (omega arith)

-- the packet that is given at that moment, as it is sent
abbrev pub given_sendings : ℕ → Option Given → List Sending
given_sendings moment None = []
given_sendings moment (Some g) = record { id = g.waiting.id; moment = moment } ∷ []

pub drops_send : (moment : ℕ) (why : Cause) (gone : List Waiting) → sendings (map (drop_event moment why) gone) ≡ []
drops_send moment why [] = refl
drops_send moment why (w ∷ gone) = drops_send moment why gone

pub given_sends : (moment : ℕ) (given : Option Given) → sendings (sent_events moment given) ≡ given_sendings moment given
given_sends moment None = refl
given_sends moment (Some g) = refl

-- what a step sends: nothing, or the packet that a dequeue gives
record StepSends (step : Step) (events : List Event) : Type 0 where
  pub given : Option Given
  pub ids : filter_map sent_of events ≡ given_ids given
  pub asked : (moment : ℕ) → step ≡ Dequeue moment → sendings events ≡ given_sendings moment given
  pub taken : (moment lane : ℕ) (packet : PacketParts) → step ≡ Enqueue moment lane packet → sendings events ≡ []

module _ {Q : Type 0} (d : Discipline Q) where
  makes_send : (old new : State Q) (step : Step) (said : Answer) (events : List Event) → Makes d old step said events new → StepSends step events
  makes_send old new (Enqueue moment lane packet) said events m =
      let nothing : sendings events ≡ [] = ap sendings m.1.told ∙ drops_send moment cause.Overflow m.1.lost in
      record {
        given = None;
        ids = ap (filter_map sent_of) m.1.told ∙ sent_ids_none lane old.next_id moment (d.flow_of packet.tuple) packet cause.Overflow m.1.lost;
        asked = λ t e. absurd cc;
        taken = λ t l q e. nothing;
      }
  makes_send old new (Dequeue moment) said events m =
      let s = m.2 in
      record {
        given = m.0;
        ids = ap (filter_map sent_of) s.told ∙ sent_ids_of moment cause.Codel s.dropped m.0;
        asked = λ t e. ap sendings s.told ∙ filter_map-append sending_of (map (drop_event moment cause.Codel) s.dropped) (sent_events moment m.0) ∙ rw (drops_send moment cause.Codel s.dropped) (given_sends moment m.0) ∙ (let same : moment ≡ t = cc in ap (λ n. given_sendings n m.0) same);
        taken = λ t l q e. absurd cc;
      }
  makes_send old new (Close moment) said events m = record {
    given = None;
    ids = ap (filter_map sent_of) m.1.told;
    asked = λ t e. absurd cc;
    taken = λ t l q e. absurd cc;
  }

  step_sends : (old new : State Q) (step : Step) (said : Answer) (events : List Event) → Steps d old step said events new → is_refused said ≡ false → StepSends step events
  step_sends old new step said events s accepted = go (refusal_of old step) s
    where
      go : (o : Option Refusal) → MatchOption o (Makes d old step said events new) (λ r. (said ≡ answer.Refused r) × (events ≡ []) × (new ≡ old)) → StepSends step events
      go None m = makes_send old new step said events m
      go (Some r) m = let t : true ≡ false = sym (ap is_refused m.0) ∙ accepted in absurd cc

module _ (link : LinkFields) (some : 0 < link.rate) (arrivals : List Arrival) where
  -- the next packet starts at those units or later
  abbrev StartsFrom : ℕ → LinkState → List Arrival → ℕ → Type 0
  StartsFrom last idle [] from = Unit {0}
  StartsFrom last idle (a ∷ rest) from = from ≤ a.moment * link.rate
  StartsFrom last (asks t) coming from = (from ≤ t * link.rate) × (t ≤ last)
  StartsFrom last (free u) coming from = from ≤ u

  -- behind a dequeue at those units
  starts_after : (last from units : ℕ) (coming : List Arrival) (given : Option Given) (moment : ℕ) (rest : List Sending) → from ≤ units → moment ≡ units / link.rate
      → StartsFrom last idle coming from
      → ((from' : ℕ) → StartsFrom last (after_ids link arrivals units (given_ids given)) coming from' → AreSentInTurn link arrivals from' rest)
      → AreSentInTurn link arrivals from (given_sendings moment given ++ rest)
  starts_after last from units coming None moment rest late is idles go = go from idles
  starts_after last from units coming (Some g) moment rest late is idles go = (units, late, is, go _ (omega arith))

  idle_later : (last from t : ℕ) (coming : List Arrival) → from ≤ t * link.rate → t ≤ last → AreComing last coming → StartsFrom last idle coming from
  idle_later last from t [] late early comes = tt
  idle_later last from t (a ∷ rest) late early comes =
      let low : t ≤ a.moment = let b = comes.0 in omega arith in
      let times = mul-le-mul_left link.rate low in
      omega arith

  abbrev Sends : ℕ → List Event → List Sending → Type 0
  Sends from events rest = AreSentInTurn link arrivals from (sendings events ++ rest)

  -- one move
  move_apart : (last from : ℕ) (state : LinkState) (coming : List Arrival) (step : Step) (events : List Event) (new : LinkPoint) (rest : List Sending)
      → MovesFrom link arrivals state coming step events new → StepSends step events → AreComing last coming → StartsFrom last state coming from
      → ((last' from' : ℕ) → AreComing last' new.coming → StartsFrom last' new.state new.coming from' → AreSentInTurn link arrivals from' rest)
      → Sends from events rest
  move_apart last from idle [] step events new rest m s comes starts go = absurd m
  move_apart last from idle (a ∷ more) step events new rest m s comes starts go =
      rw (s.taken a.moment 0 a.packet m.enqueues) (go a.moment from (rw m.leads comes.2) (rw m.leads (starts, omega arith)))
  move_apart last from (asks t) coming step events new rest m s comes starts go =
      let is : t ≡ t * link.rate / link.rate = sym (mul-div_left t some) in
      rw (s.asked t m.dequeues)
      (starts_after last from (t * link.rate) coming s.given t rest starts.0 is (idle_later last from t coming starts.0 starts.1 comes)
      (λ from' h. go last from' (rw m.leads comes) (rw (m.leads, s.ids) h)))
  move_apart last from (free u) [] step events new rest m s comes starts go =
      rw (s.asked (u / link.rate) m.dequeues)
      (starts_after last from u [] s.given (u / link.rate) rest starts refl tt
      (λ from' h. go last from' (rw m.leads comes) (rw (m.leads, s.ids) h)))
  move_apart last from (free u) (a ∷ more) step events new rest (inl m) s comes starts go =
      rw (s.taken a.moment 0 a.packet m.1.enqueues) (go a.moment from (rw m.1.leads comes.2) (rw m.1.leads starts))
  move_apart last from (free u) (a ∷ more) step events new rest (inr m) s comes starts go =
      let after = m.0 in
      let up : u / link.rate + 1 ≤ a.moment = omega arith in
      let times = mul-le-mul_left link.rate up in
      rw (s.asked (u / link.rate) m.1.dequeues)
      (starts_after last from u (a ∷ more) s.given (u / link.rate) rest starts refl (omega arith)
      (λ from' h. go last from' (rw m.1.leads comes) (rw (m.1.leads, s.ids) h)))

  module _ {Q : Type 0} (d : Discipline Q) where
    pub run_apart : (steps : List Step) (made : List Made) (point end : LinkPoint) (old new : State Q) (last from : ℕ)
        → Follows link arrivals point steps made end → Runs d old steps made new → AllByRecursion (λ (m : Made). is_refused m.answer ≡ false) made
        → AreComing last point.coming → StartsFrom last point.state point.coming from → AreSentInTurn link arrivals from (sendings (journal_of made))
    run_apart [] [] point end old new last from f r accepted comes starts = tt
    run_apart [] (m ∷ made) point end old new last from f r accepted comes starts = absurd f
    run_apart (step ∷ steps) [] point end old new last from f r accepted comes starts = absurd f
    run_apart (step ∷ steps) (m ∷ made) point end old new last from f r accepted comes starts =
        let s = step_sends d old r.0 step m.answer m.events r.1 accepted.0 in
        subst (AreSentInTurn link arrivals from) (sym (filter_map-append sending_of m.events (journal_of made)))
        (move_apart last from point.state point.coming step m.events f.0 (sendings (journal_of made)) f.1 s comes starts
        (λ last' from' comes' starts'. run_apart steps made f.0 end r.0 new last' from' f.2 r.2 accepted.1 comes' starts'))

  -- those behind others are apart too
  apart_behind : (from : ℕ) (before rest : List Sending) → AreSentInTurn link arrivals from (before ++ rest) → (from' : ℕ) × AreSentInTurn link arrivals from' rest
  apart_behind from [] rest a = (from, a)
  apart_behind from (s ∷ before) rest a = apart_behind (a.0 + work_of link arrivals s) before rest a.3

  -- when a later one starts
  apart_sum : (from : ℕ) (between behind : List Sending) (later : Sending) → AreSentInTurn link arrivals from (between ++ later ∷ behind)
      → (start : ℕ) × (from + sum_by (work_of link arrivals) between ≤ start) × (later.moment ≡ start / link.rate)
  apart_sum from [] behind later a = (a.0, let e = a.1 in omega arith, a.2)
  apart_sum from (s ∷ between) behind later a =
      let next = apart_sum (a.0 + work_of link arrivals s) between behind later a.3 in
      let parts = sum_by-cons (work_of link arrivals) s between in
      let low = a.1 in
      let more = next.1 in
      (next.0, omega arith, next.2)

  pub rate_between : (all before between behind : List Sending) (one later : Sending) → all ≡ before ++ (one ∷ between ++ later ∷ behind) → AreSentInTurn link arrivals 0 all
      → sum_by (work_of link arrivals) (one ∷ between) + link.rate * one.moment < link.rate * (later.moment + 1)
  rate_between all before between behind one later is apart =
      let a = (apart_behind 0 before (one ∷ between ++ later ∷ behind) (subst (AreSentInTurn link arrivals 0) is apart)).1 in
      let last = apart_sum (a.0 + work_of link arrivals one) between behind later a.3 in
      let parts = sum_by-cons (work_of link arrivals) one between in
      let first_at : one.moment ≡ a.0 / link.rate = a.2 in
      let last_at : later.moment ≡ last.0 / link.rate = last.2 in
      let sum = last.1 in
      let low = floor_low link.rate one.moment a.0 some first_at in
      let high = floor_high link.rate later.moment last.0 some last_at in
      omega arith

-- whatever the discipline is
pub link_apart : {Q : Type 0} (d : Discipline Q) (link : LinkFields) → IsLink link → (arrivals : List Arrival) → AreArrivals arrivals → (steps : List Step) (made : List Made) (last : State Q) → IsLinkRunOf d link arrivals steps made last
    → AreSentInTurn link arrivals 0 (sendings (journal_of made))
link_apart d link range arrivals are steps made last run =
    let some : 0 < link.rate = let r = range.rate in omega arith in
    run_apart link some arrivals d steps made (record { state = idle; coming = arrivals }) (record { state = idle; coming = [] }) (opening_state d.opening) last 0 0 run.law run.runs
    (recursion_from_All (λ (m : Made). is_refused m.answer ≡ false) made run.none_refused) (all_come arrivals are) (first arrivals)
  where
    first : (coming : List Arrival) → StartsFrom link (let r = range.rate in omega arith) arrivals 0 idle coming 0
    first [] = tt
    first (a ∷ rest) = omega arith

-- and none starts before the first packet comes
pub link_apart_from : {Q : Type 0} (d : Discipline Q) (link : LinkFields) → IsLink link → (a : Arrival) (more : List Arrival) → AreArrivals (a ∷ more) → (steps : List Step) (made : List Made) (last : State Q) → IsLinkRunOf d link (a ∷ more) steps made last
    → AreSentInTurn link (a ∷ more) (a.moment * link.rate) (sendings (journal_of made))
link_apart_from d link range a more are steps made last run =
    let some : 0 < link.rate = let r = range.rate in omega arith in
    run_apart link some (a ∷ more) d steps made (record { state = idle; coming = a ∷ more }) (record { state = idle; coming = [] }) (opening_state d.opening) last 0 (a.moment * link.rate) run.law run.runs
    (recursion_from_All (λ (m : Made). is_refused m.answer ≡ false) made run.none_refused) (all_come (a ∷ more) are) (omega arith)
