-- The run that an engine is, and the steps that it keeps.
use Rattle.std.proofs.Common.{◌≡◌, ℕ, ◌+◌, ◌-◌, ◌≤◌, false, List, [], ◌∷◌, ◌++◌, length, Option, Some, None, refl, sym, ap, ◌∙◌, append_assoc, append-nil, arith}
use Rattle.std.proofs.lemmas.List.Elements.{All-nil, All-push}
use Rattle.journal_core.specs.declared.event.Event.{Event}
use Rattle.journal_core.specs.declared.outcome.Answer.{Answer}
use Rattle.journal_core.specs.declared.outcome.Answer.TheVariants as answer
use Rattle.journal_core.specs.declared.outcome.Outcome.{Outcome}
use Rattle.journal_core.specs.declared.step.Sent.{Sent}
use Rattle.journal_core.specs.declared.step.Step.{Step}
use Rattle.journal_core.specs.declared.step.Step.TheVariants.{Dequeue}
use Rattle.sched_core.specs.AnyStep.{GoesOn}
use Rattle.journal_core.specs.Calls.{Standing}
use Rattle.journal_core.specs.Disciplines.{Discipline}
use Rattle.packet_core.specs.declared.flow.Seed.{Seed}
use Rattle.packet_core.specs.declared.params.ParamFields.{ParamFields}
use Rattle.sched_core.specs.Engines.{EngineInvariant, HasRun, new_engine}
use Rattle.sched_core.specs.LastSteps.{is_dequeued, is_made}
use Rattle.sched_core.specs.LastSteps.AtLast.{none as at_none}
use Rattle.journal_core.specs.Runs.{Made, IsRunOf, is_refused, steps_made, unless_refused}
use Rattle.sched_core.specs.Schedulers.{IsAdvanced, IsServed, Scheduler, discipline_of}
use Rattle.journal_core.specs.State.{opening_state, refusal_of}
use Rattle.journal_core.specs.Steps.{Makes, dequeue_answer}
use Rattle.journal_core.proofs.RunsWithoutRefused.{made_answer}
use Rattle.journal_core.proofs.RunLemmas.{journal_push, runs_push}

module _ {Q : Type 0} (d : Discipline Q) where
  -- the run goes on by a step that is made
  made_on : (steps : List Step) (step : Step) (old new : Standing Q) (said : Answer) (events : List Event) → IsRunOf d steps old → refusal_of old.state step ≡ None → Makes d old.state step said events new.state → new.events ≡ old.events ++ events
      → IsRunOf d (steps ++ step ∷ []) new
  made_on steps step old new said events run fits makes journal =
      let m : Made = record { answer = said; events = events } in
      record {
        made = run.made ++ m ∷ [];
        runs = runs_push d (opening_state d.opening) old.state new.state steps run.made step m run.runs (rw fits makes);
        journal = journal ∙ ap (λ es. es ++ events) run.journal ∙ sym (journal_push d run.made m);
        none_refused = All-push (λ (x : Made). is_refused x.answer ≡ false) run.made m run.none_refused (made_answer d old.state new.state step said events makes);
      }

pub advanced_on : {steps : List Step} {step : Step} {said : Answer} {old new : Scheduler} → IsRunOf (discipline_of old) steps old.standing → IsAdvanced old step said new
    → IsRunOf (discipline_of new) (steps ++ step ∷ []) new.standing
advanced_on {steps} {step} {said} {old} {new} run a =
    rw (a.params, a.seed) (made_on (discipline_of old) steps step old.standing new.standing said a.advances.made run a.advances.fits a.advances.makes a.advances.journal)

pub served_on : {steps : List Step} {moment : ℕ} {sent : Option Sent} {old new : Scheduler} → IsRunOf (discipline_of old) steps old.standing → IsServed old moment sent new
    → IsRunOf (discipline_of new) (steps ++ Dequeue moment ∷ []) new.standing
served_on {steps} {moment} {old = old} {new} run s =
    let g = s.gives in
    rw (s.params, s.seed) (made_on (discipline_of old) steps (Dequeue moment) old.standing new.standing (dequeue_answer g.given) g.made run g.fits (g.given, refl, g.serves) g.journal)

-- the same of a step of any kind that isn't refused; it takes one of the room at most
pub goes_on : (steps : List Step) (step : Step) (said : Answer) (old new : Scheduler) → IsRunOf (discipline_of old) steps old.standing → refusal_of old.standing.state step ≡ None → GoesOn old step said new
    → IsRunOf (discipline_of new) (steps ++ step ∷ []) new.standing × (old.room ≤ new.room + 1)
goes_on steps step answer.Accepted old new run fits g = (advanced_on run g.advances, let e = g.room in omega arith)
goes_on steps step answer.Sent old new run fits g = (rw g.1.dequeues (served_on run g.1.serves), let e = g.1.serves.room in omega arith)
goes_on steps step answer.Idle old new run fits g = (rw g.dequeues (served_on run g.serves), let e = g.serves.room in omega arith)
goes_on steps step answer.Closed old new run fits g = (advanced_on run g.advances, let e = g.room in omega arith)
goes_on steps step (answer.Refused why) old new run fits g = let e : None ≡ Some why = sym fits ∙ g.0 in absurd cc

-- what an engine keeps, behind a step that it made and told to its recorder
pub told_on : {old new : Scheduler} {steps told : List Step} {space space' reserved reserved' : ℕ} (step : Step) → EngineInvariant old steps space reserved
    → IsRunOf (discipline_of new) (steps ++ step ∷ []) new.standing → old.room ≤ new.room + 1
    → told ≡ steps ++ step ∷ [] → space ≤ space' + 1 → reserved' ≡ reserved - 1 → EngineInvariant new told space' reserved'
told_on step kept run room is less used =
    record {
      run = rw is run;
      in_sched = omega (arith, kept.in_sched);
      in_recorder = omega (arith, kept.in_recorder);
    }

-- A new engine has made no step yet.
pub has_run_none : (p : ParamFields) (seed : Seed) (steps : List Step) → HasRun p seed steps [] [] (new_engine p seed)
has_run_none p seed steps = record {
  run = record { made = []; runs = refl; journal = refl; told = refl };
  params_kept = refl;
  seed_kept = refl;
  one_each = refl;
  stored = refl;
  turns = at_none (All-nil (λ (x : Outcome). is_dequeued x.answer ≡ false)) refl;
  few = at_none (All-nil (λ (x : Outcome). is_made x.answer ≡ false)) refl;
}

-- a step and its outcome more
pub kept_push : (steps : List Step) (outcomes : List Outcome) (step : Step) (o : Outcome) → length outcomes ≡ length steps → steps_made (steps ++ step ∷ []) (outcomes ++ o ∷ []) (λ x. x.answer) ≡ steps_made steps outcomes (λ x. x.answer) ++ unless_refused o.answer step
kept_push [] [] step o e = append-nil (unless_refused o.answer step)
kept_push [] (x ∷ outcomes) step o e = absurd cc
kept_push (x ∷ steps) [] step o e = absurd cc
kept_push (x ∷ steps) (y ∷ outcomes) step o e =
    ap (λ l. unless_refused y.answer x ++ l) (kept_push steps outcomes step o cc)
    ∙ sym (append_assoc (unless_refused y.answer x) (steps_made steps outcomes (λ x. x.answer)) (unless_refused o.answer step))
