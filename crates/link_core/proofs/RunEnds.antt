-- What a link's run accepts is what came, and what it sends takes the link's time up to the end.
use Rattle.std.proofs.Common.{◌≡◌, ℕ, ◌+◌, ◌*◌, ◌/◌, ◌<◌, ◌≤◌, ◌⊎◌, true, false, List, [], ◌∷◌, ◌++◌, map, max, sum_by, Option, Some, None, MatchOption, refl, sym, ap, subst, ◌∙◌, inl, inr, arith, append_assoc}
use Rattle.std.specs.List.{AllByRecursion}
use Rattle.std.proofs.Math.Nat.{le-max_left, le-max_right, mul-le-mul_right}
use Rattle.std.proofs.lemmas.Grind.{div_ceil_times}
use Rattle.std.proofs.lemmas.List.{append-nil, map-append}
use Rattle.std.proofs.lemmas.List.Elements.{filter_map-append, recursion_from_All}
use Rattle.std.proofs.lemmas.List.Sums.{sum_by-cons}
use Rattle.std.proofs.lemmas.Nat.{le-div}
use Rattle.packet_core.specs.declared.packet.Waiting.{Waiting}
use Rattle.journal_core.specs.declared.event.Cause.{Cause}
use Rattle.journal_core.specs.declared.event.Cause.TheVariants as cause
use Rattle.journal_core.specs.declared.event.Event.{Event}
use Rattle.journal_core.specs.declared.outcome.Answer.{Answer}
use Rattle.journal_core.specs.declared.outcome.Answer.TheVariants as answer
use Rattle.journal_core.specs.declared.step.Refusal.{Refusal}
use Rattle.journal_core.specs.declared.step.Step.{Step}
use Rattle.journal_core.specs.Disciplines.{Discipline, Given}
use Rattle.journal_core.specs.Happened.{Acceptance, acceptance_of, acceptances}
use Rattle.journal_core.specs.Runs.{Made, Runs, is_refused, journal_of}
use Rattle.journal_core.specs.State.{State, opening_state, refusal_of}
use Rattle.journal_core.specs.Steps.{Makes, Steps, drop_event, sent_events}
use Rattle.link_core.specs.declared.arrival.Arrival.{Arrival}
use Rattle.link_core.specs.declared.link.LinkFields.{LinkFields}
use Rattle.link_core.specs.Arrivals.{AreArrivals}
use Rattle.link_core.specs.LinkLaw.{Follows, LinkPoint}
use Rattle.link_core.specs.LinkLaw.LinkState.{idle}
use Rattle.link_core.specs.LinkLaws.{AreSentInTurn, Sending, end_of, sendings, sent_after, work_of}
use Rattle.link_core.specs.LinkRuns.{IsLinkRunOf}
use Rattle.link_core.specs.Links.{IsLink}
use Rattle.link_core.proofs.Causality.{AsksNext, BringsNext, kind_of}
use Rattle.link_core.proofs.Throughput.{link_apart_from}

-- WHAT IS ACCEPTED

-- an acceptance, as an arrival
abbrev pub arrival_of : Acceptance → Arrival
arrival_of a = record { moment = a.moment; packet = a.packet }

-- what is dropped or sent accepts nothing
drops_none : (moment : ℕ) (why : Cause) (gone : List Waiting) → acceptances (map (drop_event moment why) gone) ≡ []
drops_none moment why [] = refl
drops_none moment why (w ∷ gone) = drops_none moment why gone

served_none : (moment : ℕ) (why : Cause) (gone : List Waiting) (given : Option Given) → acceptances (map (drop_event moment why) gone ++ sent_events moment given) ≡ []
served_none moment why [] None = refl
served_none moment why [] (Some g) = refl
served_none moment why (w ∷ gone) given = served_none moment why gone given

-- whatever the discipline is
module _ {Q : Type 0} (d : Discipline Q) where
  makes_accept : (old new : State Q) (coming : List Arrival) (step : Step) (said : Answer) (made : List Event) (point : LinkPoint) → Makes d old step said made new → BringsNext coming step point ⊎ AsksNext coming step point
      → map arrival_of (acceptances made) ++ point.coming ≡ coming
  makes_accept old new coming step said made point makes (inl b) =
      let a = b.next in
      let m = (subst (λ (x : Step). Makes d old x said made new) b.enqueues makes).1 in
      let its : Acceptance = record { id = old.next_id; moment = a.moment; lane = 0; flow = d.flow_of a.packet.tuple; packet = a.packet } in
      let one : acceptances made ≡ its ∷ [] = ap acceptances m.told ∙ ap (λ (l : List Acceptance). its ∷ l) (drops_none a.moment cause.Overflow m.lost) in
      ap (λ (l : List Acceptance). map arrival_of l ++ point.coming) one ∙ ap (λ (l : List Arrival). a ∷ l) b.left ∙ sym b.first
  makes_accept old new coming step said made point makes (inr q) =
      let s = (subst (λ (x : Step). Makes d old x said made new) q.dequeues makes).2 in
      let given = (subst (λ (x : Step). Makes d old x said made new) q.dequeues makes).0 in
      let none : acceptances made ≡ [] = ap acceptances s.told ∙ served_none q.moment cause.Codel s.dropped given in
      ap (λ (l : List Acceptance). map arrival_of l ++ point.coming) none ∙ q.left

  step_accepts : (old new : State Q) (coming : List Arrival) (step : Step) (said : Answer) (made : List Event) (point : LinkPoint) → Steps d old step said made new → is_refused said ≡ false → BringsNext coming step point ⊎ AsksNext coming step point
      → map arrival_of (acceptances made) ++ point.coming ≡ coming
  step_accepts old new coming step said made point s accepted kind = go (refusal_of old step) s
    where
      go : (o : Option Refusal) → MatchOption o (Makes d old step said made new) (λ r. (said ≡ answer.Refused r) × (made ≡ []) × (new ≡ old)) → map arrival_of (acceptances made) ++ point.coming ≡ coming
      go None m = makes_accept old new coming step said made point m kind
      go (Some r) m = let t : true ≡ false = sym (ap is_refused m.0) ∙ accepted in absurd cc

  module _ (link : LinkFields) (arrivals : List Arrival) where
    all_accept : (steps : List Step) (made : List Made) (point end : LinkPoint) (old new : State Q) → Follows link arrivals point steps made end → Runs d old steps made new → AllByRecursion (λ (m : Made). is_refused m.answer ≡ false) made
        → map arrival_of (acceptances (journal_of made)) ++ end.coming ≡ point.coming
    all_accept [] [] point end old new f r accepted = ap (λ (x : LinkPoint). x.coming) f
    all_accept [] (m ∷ made) point end old new f r accepted = absurd f
    all_accept (step ∷ steps) [] point end old new f r accepted = absurd f
    all_accept (step ∷ steps) (m ∷ made) point end old new f r accepted =
        let here = step_accepts old r.0 point.coming step m.answer m.events f.0 r.1 accepted.0 (kind_of link arrivals point.state point.coming step m.events f.0 f.1) in
        let rest = all_accept steps made f.0 end r.0 new f.2 r.2 accepted.1 in
        let first = map arrival_of (acceptances m.events) in
        let behind = map arrival_of (acceptances (journal_of made)) in
        let parts : map arrival_of (acceptances (journal_of (m ∷ made))) ≡ first ++ behind =
        ap (map arrival_of) (filter_map-append acceptance_of m.events (journal_of made)) ∙ map-append arrival_of (acceptances m.events) (acceptances (journal_of made)) in
        ap (λ (l : List Arrival). l ++ end.coming) parts ∙ append_assoc first behind end.coming ∙ ap (λ (l : List Arrival). first ++ l) rest ∙ here

    pub run_accepts : (steps : List Step) (made : List Made) (last : State Q) → IsLinkRunOf d link arrivals steps made last → map arrival_of (acceptances (journal_of made)) ≡ arrivals
    run_accepts steps made last run =
        sym (append-nil (map arrival_of (acceptances (journal_of made))))
        ∙ all_accept steps made (record { state = idle; coming = arrivals }) (record { state = idle; coming = [] }) (opening_state d.opening) last run.law run.runs (recursion_from_All (λ (m : Made). is_refused m.answer ≡ false) made run.none_refused)

-- WHEN IT IS SENT

module _ (link : LinkFields) (some : 0 < link.rate) (arrivals : List Arrival) where
  -- the work of packets fits into the time to their end
  sent_sum : (units : ℕ) (all : List Sending) → units + sum_by (work_of link arrivals) all ≤ sent_after link arrivals units all
  sent_sum units [] = omega arith
  sent_sum units (s ∷ rest) =
      let next = sent_sum (max units (s.moment * link.rate) + work_of link arrivals s) rest in
      let parts = sum_by-cons (work_of link arrivals) s rest in
      let low = le-max_left units (s.moment * link.rate) in
      omega arith

  -- also from a moment on before which none starts
  sent_from : (first : ℕ) (s : Sending) (rest : List Sending) → AreSentInTurn link arrivals (first * link.rate) (s ∷ rest) → first * link.rate + sum_by (work_of link arrivals) (s ∷ rest) ≤ sent_after link arrivals 0 (s ∷ rest)
  sent_from first s rest a =
      let late : first ≤ a.0 / link.rate = le-div first a.0 link.rate some a.1 in
      let moment : s.moment ≡ a.0 / link.rate = a.2 in
      let later : first ≤ s.moment = omega arith in
      let times = mul-le-mul_right link.rate later in
      let next = sent_sum (max 0 (s.moment * link.rate) + work_of link arrivals s) rest in
      let parts = sum_by-cons (work_of link arrivals) s rest in
      let high = le-max_right 0 (s.moment * link.rate) in
      omega arith

-- The work of what is sent fits between the first packet's moment and the end, where any is sent.
pub works_fit : {Q : Type 0} (d : Discipline Q) (link : LinkFields) → IsLink link → (a : Arrival) (more : List Arrival) → AreArrivals (a ∷ more) → (steps : List Step) (made : List Made) (last : State Q) → IsLinkRunOf d link (a ∷ more) steps made last
    → (sum_by (work_of link (a ∷ more)) (sendings (journal_of made)) ≡ 0) ⊎ (a.moment * link.rate + sum_by (work_of link (a ∷ more)) (sendings (journal_of made)) ≤ end_of link (a ∷ more) (journal_of made) * link.rate)
works_fit d link range a more are steps made last run = go (sendings (journal_of made)) refl (link_apart_from d link range a more are steps made last run)
  where
    some : 0 < link.rate
    some = let r = range.rate in omega arith

    go : (all : List Sending) → sendings (journal_of made) ≡ all → AreSentInTurn link (a ∷ more) (a.moment * link.rate) (sendings (journal_of made))
        → (sum_by (work_of link (a ∷ more)) (sendings (journal_of made)) ≡ 0) ⊎ (a.moment * link.rate + sum_by (work_of link (a ∷ more)) (sendings (journal_of made)) ≤ end_of link (a ∷ more) (journal_of made) * link.rate)
    go [] is apart = inl (ap (sum_by (work_of link (a ∷ more))) is)
    go (s ∷ rest) is apart =
        let fits = sent_from link some (a ∷ more) a.moment s rest (subst (AreSentInTurn link (a ∷ more) (a.moment * link.rate)) is apart) in
        let up = (div_ceil_times (sent_after link (a ∷ more) 0 (s ∷ rest)) link.rate some).0 in
        inr (rw is (omega (arith, fits, up)))
