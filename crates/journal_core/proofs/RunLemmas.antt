-- One step more of a run.
use Rattle.std.proofs.Common.{◌≡◌, ℕ, ◌+◌, ◌<◌, All, List, [], ◌∷◌, ◌++◌, length, take, get_or, refl, sym, ap, subst, ◌∙◌, arith, append_assoc, append-nil, length-append}
use Rattle.std.proofs.lemmas.Grind.{flat_map-append}
use Rattle.journal_core.specs.declared.outcome.Outcome.{Outcome}
use Rattle.journal_core.specs.Calls.{Standing}
use Rattle.journal_core.proofs.Words.{AllByRecursion, take_more, All-from_recursion, Step, Event, Answer, Discipline, State, opening_state, Steps, Made, Runs, journal_of, outcomes_from, Takes, IsRun, StandsIn}

-- each outcome's own events stand in the journal
places_from : (before : List Event) (made : List Made) → AllByRecursion (StandsIn (before ++ journal_of made)) (outcomes_from (length before) made)
places_from before [] = tt
places_from before (m ∷ made) =
    let all = length-append before (m.events ++ journal_of made) in
    let part = length-append m.events (journal_of made) in
    let next = subst (λ es. AllByRecursion (StandsIn es) (outcomes_from (length (before ++ m.events)) made)) (append_assoc before m.events (journal_of made)) (places_from (before ++ m.events) made) in
    let at = length-append before m.events in
    (record { first = omega arith; end = omega arith }, subst (λ n. AllByRecursion (StandsIn (before ++ (m.events ++ journal_of made))) (outcomes_from n made)) at next)

pub places : (made : List Made) → All (StandsIn (journal_of made)) (outcomes_from 0 made)
places made = All-from_recursion (StandsIn (journal_of made)) (outcomes_from 0 made) (places_from [] made)

module _ {Q : Type 0} (d : Discipline Q) where
  -- a run goes on by a step
  pub runs_push : (old mid new : State Q) (steps : List Step) (made : List Made) (step : Step) (m : Made) → Runs d old steps made mid → Steps d mid step m.answer m.events new → Runs d old (steps ++ step ∷ []) (made ++ m ∷ []) new
  runs_push old mid new [] [] step m r s = (new, subst (λ (x : State Q). Steps d x step m.answer m.events new) r s, refl)
  runs_push old mid new [] (x ∷ made) step m r s = absurd r
  runs_push old mid new (x ∷ steps) [] step m r s = absurd r
  runs_push old mid new (x ∷ steps) (y ∷ made) step m r s = (r.0, r.1, runs_push r.0 mid new steps made step m r.2 s)

  -- so do its outcomes
  outcomes_push : (at : ℕ) (made : List Made) (m : Made) → outcomes_from at (made ++ m ∷ [])
      ≡ outcomes_from at made ++ record { answer = m.answer; first_event = at + length (journal_of made); end_event = at + length (journal_of made) + length m.events } ∷ []
  outcomes_push at [] m = let e : at + 0 ≡ at = omega arith in rw e
  outcomes_push at (x ∷ made) m =
      let e : at + length x.events + length (journal_of made) ≡ at + length (x.events ++ journal_of made) = omega (arith, length-append x.events (journal_of made)) in
      ap (λ r. record { answer = x.answer; first_event = at; end_event = at + length x.events } ∷ r) (outcomes_push (at + length x.events) made m ∙ rw e)

  pub journal_push : (made : List Made) (m : Made) → journal_of (made ++ m ∷ []) ≡ journal_of made ++ m.events
  journal_push made m = flat_map-append (λ (x : Made). x.events) made (m ∷ []) ∙ ap (λ r. journal_of made ++ r) (append-nil m.events)

  -- the run of the steps so far goes on by the next of them
  pub run_more : (steps : List Step) (i : ℕ) (step : Step) (old new : Standing Q) (outcomes outcomes' : List Outcome) (said : Answer) → i < length steps → step ≡ get_or steps i step → IsRun d (take i steps) old outcomes → Takes d old step said new
      → outcomes' ≡ outcomes ++ record { answer = said; first_event = length old.events; end_event = length new.events } ∷ [] → IsRun d (take (i + 1) steps) new outcomes'
  run_more steps i step old new outcomes outcomes' said within is run t told =
      let m : Made = record { answer = said; events = t.made } in
      let journal : new.events ≡ journal_of run.made ++ t.made = t.journal ∙ ap (λ es. es ++ t.made) run.journal in
      let first : length old.events ≡ 0 + length (journal_of run.made) = ap length run.journal ∙ (let e : length (journal_of run.made) ≡ 0 + length (journal_of run.made) = omega arith in e) in
      let end : length new.events ≡ 0 + length (journal_of run.made) + length t.made = ap length journal ∙ length-append (journal_of run.made) t.made ∙ (let e : length (journal_of run.made) + length t.made ≡ 0 + length (journal_of run.made) + length t.made = omega arith in e) in
      let so_far : take (i + 1) steps ≡ take i steps ++ step ∷ [] = take_more steps i step within ∙ ap (λ (x : Step). take i steps ++ x ∷ []) (sym is) in
      record {
        made = run.made ++ m ∷ [];
        runs = rw so_far (runs_push (opening_state d.opening) old.state new.state (take i steps) run.made step m run.runs t.steps);
        journal = journal ∙ sym (journal_push run.made m);
        told = told ∙ rw (first, end) (ap (λ os. os ++ record { answer = said; first_event = 0 + length (journal_of run.made); end_event = 0 + length (journal_of run.made) + length t.made } ∷ []) run.told) ∙ sym (outcomes_push 0 run.made m);
      }
