-- A link's next step: what a dequeue gives, and what an arrival brings.
use Rattle.std.proofs.Common.{◌≡◌, ℕ, zero, suc, ◌+◌, ◌-◌, ◌*◌, ◌<◌, ◌≤◌, List, [], ◌∷◌, ◌++◌, length, get_or, take, drop, add-one, length-drop, Option, Some, None, IfSome, IfOk, Result, Ok, Err, false, refl, sym, ap, subst, ◌∙◌, arith}
use Rattle.std.specs.List.{filter_map}
use Rattle.std.proofs.lemmas.List.{get_or-map, take_all}
use Rattle.std.proofs.lemmas.List.Elements.{All-nil}
use Rattle.journal_core.specs.declared.event.Cause.TheVariants as cause
use Rattle.journal_core.specs.declared.event.Event.{Event}
use Rattle.journal_core.specs.declared.outcome.Answer.TheVariants as answer
use Rattle.journal_core.specs.declared.step.Step.{Step}
use Rattle.journal_core.specs.declared.step.Step.TheVariants.{Enqueue, Dequeue}
use Rattle.journal_core.specs.Calls.{Standing}
use Rattle.journal_core.specs.Disciplines.{Discipline, Given}
use Rattle.journal_core.specs.Runs.{Made, is_refused}
use Rattle.journal_core.specs.State.{refusal_of}
use Rattle.journal_core.specs.Statistics.{sent_of}
use Rattle.journal_core.specs.Steps.{Serves, dequeue_answer}
use Rattle.link_core.specs.declared.arrival.Arrival.{Arrival}
use Rattle.link_core.specs.declared.arrival.TheConstants.{MAX_ARRIVAL_MOMENT}
use Rattle.link_core.specs.declared.free_at.FreeAt.{FreeAt}
use Rattle.link_core.specs.declared.link.LinkFields.{LinkFields}
use Rattle.link_core.specs.Arrivals.{AreArrivals, arrival_length, length_at}
use Rattle.link_core.specs.LinkLaw.{LinkPoint, LinkState, Moves, after, after_ids}
use Rattle.link_core.specs.LinkRuns.{HasRunOver}
use Rattle.link_core.specs.QueueDisciplines.{HasArrived, Progress, no_progress, sent_count}
use Rattle.link_core.specs.Underway.{AreComing, ComesBy, HasAsked, IsFreeInTime, IsOnLink, IsOnTime, IsUnderway, SendsGiven, busy_count, longest_wire_time, state_of, units_of}
use Rattle.link_core.proofs.LinkSteps.{underway_on}
use Rattle.link_core.proofs.LinkTimes.{all_come, asks_idle, comes_busy}
use Rattle.link_core.proofs.SentIds.{given_ids, sent_ids_none, sent_ids_of, sent_more}

-- the link sends what was given
sends_ids : (link : LinkFields) (arrivals : List Arrival) (now : FreeAt) (given : Option Given) (busy : Option FreeAt) → SendsGiven link arrivals now given busy
    → after_ids link arrivals (units_of link now) (given_ids given) ≡ state_of link busy
sends_ids link arrivals now None None s = refl
sends_ids link arrivals now None (Some f) s = absurd s
sends_ids link arrivals now (Some g) None s = absurd s
sends_ids link arrivals now (Some g) (Some f) s = ap LinkState.free (sym s.exact)

-- and gets free in time
sends_time : {Q : Type 0} (link : LinkFields) (arrivals : List Arrival) (now : FreeAt) (given : Option Given) (busy : Option FreeAt) (sent : ℕ) (at : Standing Q) (coming : List Arrival) → SendsGiven link arrivals now given busy
    → at.state.last ≡ now.moment → sent_count at.events ≡ sent + length (given_ids given) → now.moment ≤ MAX_ARRIVAL_MOMENT + longest_wire_time * sent → AreComing now.moment coming
    → IsOnTime link at busy coming
sends_time link arrivals now given busy sent at coming s last more soon comes = record { frees = frees given busy s more; comes = rw last comes }
  where
    frees : (o : Option Given) (b : Option FreeAt) → SendsGiven link arrivals now o b → sent_count at.events ≡ sent + length (given_ids o) → IfSome b (IsFreeInTime link at.state.last (sent_count at.events))
    frees o None s more = tt
    frees None (Some f) s more = absurd s
    frees (Some g) (Some f) s more = record { rest = s.rest; later = rw last s.later; soon = let a = s.soon in let b = more in omega arith }

module _ {Q : Type 0} (d : Discipline Q) (link : LinkFields) (arrivals : List Arrival) where
  -- a dequeue is the link's next step
  pub asked_underway : (steps : List Step) (old new : Standing Q) (now : FreeAt) (given : Option Given) (made : List Event) (busy : Option FreeAt) (point : LinkPoint)
      → IsUnderway d link arrivals steps old point → refusal_of old.state (Dequeue now.moment) ≡ None → Serves d old.state now.moment given made new.state → new.events ≡ old.events ++ made
      → SendsGiven link arrivals now given busy
      → Moves link arrivals point (Dequeue now.moment) made (record { state = after link arrivals (units_of link now) made; coming = point.coming })
      → IsUnderway d link arrivals (steps ++ Dequeue now.moment ∷ []) new (record { state = state_of link busy; coming = point.coming })
  asked_underway steps old new now given made busy point u fits serves journal sends moves =
      let ids : filter_map sent_of made ≡ given_ids given = ap (filter_map sent_of) serves.told ∙ sent_ids_of now.moment cause.Codel serves.dropped given in
      let state : after link arrivals (units_of link now) made ≡ state_of link busy = ap (after_ids link arrivals (units_of link now)) ids ∙ sends_ids link arrivals now given busy sends in
      underway_on d link arrivals steps (Dequeue now.moment) old new (dequeue_answer given) made point (record { state = state_of link busy; coming = point.coming }) u fits (given, refl, serves) journal
      (subst (λ (x : LinkState). Moves link arrivals point (Dequeue now.moment) made (record { state = x; coming = point.coming })) state moves)
      (ap (λ n. n + length point.coming) serves.next_id) serves.closed

  pub asked_time : (old new : Standing Q) (now : FreeAt) (given : Option Given) (made : List Event) (busy : Option FreeAt) (coming : List Arrival)
      → Serves d old.state now.moment given made new.state → new.events ≡ old.events ++ made → SendsGiven link arrivals now given busy
      → now.moment ≤ MAX_ARRIVAL_MOMENT + longest_wire_time * sent_count old.events → AreComing now.moment coming
      → IsOnTime link new busy coming
  asked_time old new now given made busy coming serves journal sends soon comes =
      let ids : filter_map sent_of made ≡ given_ids given = ap (filter_map sent_of) serves.told ∙ sent_ids_of now.moment cause.Codel serves.dropped given in
      let more : sent_count new.events ≡ sent_count old.events + length (given_ids given) = ap sent_count journal ∙ sent_more old.events made ∙ ap (λ l. sent_count old.events + length l) ids in
      sends_time link arrivals now given busy (sent_count old.events) new coming sends serves.last more soon comes

  -- no more packets were sent than came, and those have ids
  pub sent_bound : (at : Progress Q) (busy : Option FreeAt) (coming : List Arrival) → IsOnLink d link arrivals at busy coming → (sent_count at.standing.events ≤ length arrivals) × (at.standing.state.next_id ≤ length arrivals)
  sent_bound at busy coming on =
      let few = on.few in
      let ids = on.underway.ids in
      (omega arith, omega arith)

  -- the link asks
  pub asked_on_link : (old new : Progress Q) (now : FreeAt) (busy : Option FreeAt) (point : LinkPoint) → IsUnderway d link arrivals old.steps old.standing point → HasAsked d link arrivals now old busy new
      → ((events : List Event) → Moves link arrivals point (Dequeue now.moment) events (record { state = after link arrivals (units_of link now) events; coming = point.coming }))
      → now.moment ≤ MAX_ARRIVAL_MOMENT + longest_wire_time * sent_count old.standing.events → AreComing now.moment point.coming
      → IsOnLink d link arrivals new busy point.coming
  asked_on_link old new now busy point u asked moves soon comes =
      let s = asked.serves in
      let g = s.gives in
      record {
        underway = rw s.steps (asked_underway old.steps old.standing new.standing now g.given g.made busy point u g.fits g.serves g.journal asked.sends (moves g.made));
        on_time = asked_time old.standing new.standing now g.given g.made busy point.coming g.serves g.journal asked.sends soon comes;
        few = s.few;
      }

  -- so many more packets are sent as there is one that the link sends
  pub asked_count : (old new : Progress Q) (now : FreeAt) (busy : Option FreeAt) → HasAsked d link arrivals now old busy new → sent_count new.standing.events ≡ sent_count old.standing.events + busy_count busy
  asked_count old new now busy asked =
      let g = asked.serves.gives in
      let ids : filter_map sent_of g.made ≡ given_ids g.given = ap (filter_map sent_of) g.serves.told ∙ sent_ids_of now.moment cause.Codel g.serves.dropped g.given in
      ap sent_count g.journal ∙ sent_more old.standing.events g.made ∙ ap (λ l. sent_count old.standing.events + length l) ids
      ∙ ap (λ n. sent_count old.standing.events + n) (as_many g.given busy asked.sends)
    where
      as_many : (o : Option Given) (b : Option FreeAt) → SendsGiven link arrivals now o b → length (given_ids o) ≡ busy_count b
      as_many None None s = refl
      as_many None (Some f) s = absurd s
      as_many (Some g) None s = absurd s
      as_many (Some g) (Some f) s = refl

  -- a packet comes in
  pub taken_underway : (old new : Progress Q) (a : Arrival) (rest : List Arrival) (state state' : LinkState)
      → IsUnderway d link arrivals old.steps old.standing (record { state = state; coming = a ∷ rest }) → HasArrived d old a.moment a.packet new
      → ((events : List Event) → Moves link arrivals (record { state = state; coming = a ∷ rest }) (Enqueue a.moment 0 a.packet) events (record { state = state'; coming = rest }))
      → IsUnderway d link arrivals new.steps new.standing (record { state = state'; coming = rest })
  taken_underway old new a rest state state' u came moves =
      let v = came.advances in
      let admits = v.makes.1 in
      let ids = admits.next_id in
      let more : new.standing.state.next_id + length rest ≡ old.standing.state.next_id + length (a ∷ rest) = omega arith in
      rw came.steps (underway_on d link arrivals old.steps (Enqueue a.moment 0 a.packet) old.standing new.standing answer.Accepted v.made (record { state = state; coming = a ∷ rest }) (record { state = state'; coming = rest }) u v.fits v.makes v.journal (moves v.made) more admits.closed)

  -- and nothing is sent then
  pub taken_count : (old new : Progress Q) (a : Arrival) → HasArrived d old a.moment a.packet new → (sent_count new.standing.events ≡ sent_count old.standing.events) × (new.standing.state.last ≡ a.moment)
  taken_count old new a came =
      let v = came.advances in
      let admits = v.makes.1 in
      let none : filter_map sent_of v.made ≡ [] = ap (filter_map sent_of) admits.told ∙ sent_ids_none 0 old.standing.state.next_id a.moment (d.flow_of a.packet.tuple) a.packet cause.Overflow admits.lost in
      let more = sent_more old.standing.events v.made in
      let len : length (filter_map sent_of v.made) ≡ 0 = ap length none in
      (ap sent_count v.journal ∙ (let e : sent_count (old.standing.events ++ v.made) ≡ sent_count old.standing.events = omega arith in e), admits.last)

  -- a link that sends goes on sending
  pub taken_on_link : (old new : Progress Q) (f : FreeAt) (a : Arrival) (rest : List Arrival) → IsOnLink d link arrivals old (Some f) (a ∷ rest) → HasArrived d old a.moment a.packet new
      → a.moment ≤ f.moment → IsOnLink d link arrivals new (Some f) rest
  taken_on_link old new f a rest on came by =
      let frees = on.on_time.frees in
      let few = on.few in
      let more = came.advances.makes.1.next_id in
      let count = taken_count old new a came in
      let same = count.0 in
      record {
        underway = taken_underway old new a rest _ _ on.underway came (λ events. comes_busy link arrivals f a rest events frees.rest by);
        on_time = record {
          frees = record { rest = frees.rest; later = rw count.1 by; soon = rw count.0 frees.soon };
          comes = rw count.1 on.on_time.comes.2;
        };
        few = omega arith;
      }

  -- before the first step
  pub opening_on_link : (at : Progress Q) → at ≡ no_progress d → AreArrivals arrivals → IsOnLink d link arrivals at None arrivals
  opening_on_link at new are = rw new (record {
    underway = record {
      made = [];
      follows = refl;
      runs = refl;
      journal = refl;
      none_refused = All-nil (λ (m : Made). is_refused m.answer ≡ false);
      ids = omega arith;
      opened = refl;
    };
    on_time = record { frees = tt; comes = all_come arrivals are };
    few = omega arith;
  })

  -- and after the last
  pub has_run : (at : Progress Q) (busy : Option FreeAt) → IsOnLink d link arrivals at busy [] → IfSome busy (λ f. ComesBy f.moment []) → HasRunOver d link arrivals at
  has_run at None on waits =
      let u = on.underway in
      record { made = u.made; run = record { law = u.follows; runs = u.runs; none_refused = u.none_refused }; journal = u.journal }
  has_run at (Some f) on waits = absurd waits

  -- what a packet that comes to an idle link finds
  pub taken_idle : (old mid new : Progress Q) (busy : Option FreeAt) (a : Arrival) (rest : List Arrival) → IsOnLink d link arrivals old None (a ∷ rest) → HasArrived d old a.moment a.packet mid
      → HasAsked d link arrivals (record { moment = a.moment; rest = 0 }) mid busy new → IsOnLink d link arrivals new busy rest
  taken_idle old mid new busy a rest on came asked =
      let now : FreeAt = record { moment = a.moment; rest = 0 } in
      let u = taken_underway old mid a rest LinkState.idle (LinkState.asks a.moment) on.underway came (λ events. record { enqueues = refl; leads = refl }) in
      let early = on.on_time.comes.1 in
      asked_on_link mid new now busy (record { state = LinkState.asks a.moment; coming = rest }) u asked (λ events. asks_idle link arrivals now rest events refl) (omega arith) on.on_time.comes.2

-- the length that a place has
pub length_there : (arrivals : List Arrival) (id : ℕ) (a : Arrival) → id < length arrivals → length_at arrivals id ≡ (get_or arrivals id a).packet.len
length_there arrivals id a within = get_or-map arrival_length arrivals id a 0 within

-- what is known of an answer, step by step
pub ok_more : {X E : Type 0} (P R : X → Type 0) (r : Result X E) → ((x : X) → P x → R x) → IfOk r P → IfOk r R
ok_more P R (Ok x) more is = more x is
ok_more P R (Err e) more is = tt

pub ok_both : {X E : Type 0} (P Q R : X → Type 0) (r : Result X E) → ((x : X) → P x → Q x → R x) → IfOk r P → IfOk r Q → IfOk r R
ok_both P Q R (Ok x) more p q = more x p q
ok_both P Q R (Err e) more p q = tt

-- what is still to come of a list of arrivals, as a slice
pub rest_of : {X : Type 0} (xs : List X) (i : ℕ) → take (length xs - i) (drop i xs) ≡ drop i xs
rest_of xs i = take_all (length xs - i) (drop i xs) (omega (arith, length-drop i xs))

-- and behind the next one
drop_next : {X : Type 0} (i : ℕ) (xs : List X) → drop 1 (drop i xs) ≡ drop (suc i) xs
drop_next zero xs = refl
drop_next (suc i) [] = refl
drop_next (suc i) (x ∷ xs) = drop_next i xs

pub next_of : {X : Type 0} (xs : List X) (i : ℕ) → drop 1 (take (length xs - i) (drop i xs)) ≡ drop (i + 1) xs
next_of xs i = rw (rest_of xs i, add-one) (drop_next i xs)

-- none is left past the end
pub none_left : {X : Type 0} (xs : List X) (i : ℕ) → length xs ≤ i → drop i xs ≡ []
none_left [] zero past = refl
none_left [] (suc i) past = refl
none_left (x ∷ xs) zero past = absurd (omega arith)
none_left (x ∷ xs) (suc i) past = none_left xs i (omega arith)
