use Rattle.std.proofs.Common.{◌≡◌, ◌+◌, ◌<◌, [], ◌∷◌, ◌++◌, length, take, slice_get, Some, sym, ap, refl, ◌∙◌, arith, length-append, rules}
use Rattle.std.proofs.lemmas.List.{length-take-le, take_all, take_more}
use Rattle.std.proofs.lemmas.Option.{slice_get_read}
use Rattle.journal_core.specs.declared.outcome.Outcome.{Outcome}
use Rattle.journal_core.specs.declared.step.Step.{Step}
use Rattle.journal_core.specs.Runs.{IsRun}
use Rattle.fair_core.specs.FqCodel.{fq_codel}
use Rattle.journal_core.proofs.RunLemmas.{run_more}
use Rattle.sched_core.specs.LastSteps.{AreFewOfLast, AreTurnsOfLast}
use Rattle.sched_core.proofs.EngineRuns.{has_run_none, kept_push}
use Rattle.sched_core.proofs.LastStepLemmas.{comparisons_of_last, turns_of_last}
use Rattle.sched_core.proofs.run.make_all.Goals as goal

pub loop-step-init : goal.loop-step-init
loop-step-init c = λ params seed new.
    let empty : c.in_ok-outcomes.outcomes.items ≡ [] = search rules in
    rw (new, empty) (has_run_none params seed c.args.steps.now)

pub loop-step-preserved : goal.loop-step-preserved
loop-step-preserved c = λ params seed start.
    let inv = c.loop-step.invariant params seed start in
    let steps = c.args.steps.now in
    let index = c.loop-step.step-index in
    let step = c.step-item.result in
    let so_far = take index steps in
    let old = c.loop-step.engine.sched in
    let new = c.make.new.self.sched in
    let outcomes = c.loop-step.outcomes.items in
    let o : Outcome = record { answer = c.in_ok-answer.answer; first_event = length old.standing.events; end_event = length new.standing.events } in
    let within : index < length steps = omega arith in
    let size : length outcomes ≡ index = inv.one_each ∙ length-take-le index steps (omega (arith, within)) in
    let made = rw (inv.params_kept, inv.seed_kept) at c.in_ok-answer.ensures.made in
    let pushed : c.push.new.self.items ≡ outcomes ++ o ∷ [] = rw (← c.events-first_event.ensures.value, ← c.events.ensures.value) c.in_ok-push.ensures.items in
    let more : take (index + 1) steps ≡ so_far ++ step ∷ [] = take_more steps index step within ∙ ap (λ (x : Step). so_far ++ x ∷ []) (sym c.step-item.is) in
    let found : slice_get steps (length outcomes) ≡ Some step = rw size (slice_get_read steps (length steps) index step refl within c.step-item.is) in
    let run : IsRun (fq_codel old.params old.seed) (take (length outcomes) steps) old.standing outcomes = rw (inv.params_kept, inv.seed_kept, size) inv.run in
    let turns : AreTurnsOfLast old.params old.seed steps outcomes old.turns = rw (inv.params_kept, inv.seed_kept) inv.turns in
    let few : AreFewOfLast old.params outcomes old.comparisons = rw inv.params_kept inv.few in
    let goes_on = c.in_ok-answer.ensures.goes_on in
    record {
      run = run_more (fq_codel params seed) steps index step old.standing new.standing outcomes c.push.new.self.items c.in_ok-answer.answer within c.step-item.is inv.run made pushed;
      params_kept = c.in_ok-answer.ensures.params ∙ inv.params_kept;
      seed_kept = c.in_ok-answer.ensures.seed ∙ inv.seed_kept;
      one_each = rw (pushed, more, length-append outcomes, length-append so_far, inv.one_each) refl;
      stored = rw (c.in_ok-answer.ensures.steps, inv.stored, more, pushed) (sym (kept_push so_far outcomes step o inv.one_each));
      turns = rw (pushed, ← inv.params_kept, ← inv.seed_kept) (turns_of_last steps outcomes old new step o found run goes_on turns);
      few = rw (pushed, ← inv.params_kept) (comparisons_of_last steps outcomes old new step o refl refl goes_on few);
    }

pub returns : goal.returns
returns c = λ params seed start.
    let all : take c.loop-step.step-index c.args.steps.now ≡ c.args.steps.now = take_all _ _ (omega arith) in
    rw all at (c.loop-step.invariant params seed start)
