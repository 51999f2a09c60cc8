-- A run without its refused steps.
use Rattle.std.proofs.Common.{◌≡◌, true, false, List, [], ◌∷◌, ◌++◌, Option, Some, None, MatchOption, refl, sym, ap, subst, ◌∙◌, inl, inr}
use Rattle.journal_core.specs.declared.step.Refusal.{Refusal}
use Rattle.journal_core.specs.declared.outcome.Answer.TheVariants as answer
use Rattle.journal_core.proofs.Words.{cases_Bool, false≢true, Step, Enqueue, Dequeue, Close, Event, Answer, Discipline, Given, State, refusal_of, Makes, Steps, dequeue_answer, Made, Runs, is_refused, steps_made, given_by_made, journal_of}

module _ {Q : Type 0} (d : Discipline Q) where
  -- a step that is made isn't answered as refused
  pub made_answer : (old new : State Q) (step : Step) (said : Answer) (events : List Event) → Makes d old step said events new → is_refused said ≡ false
  made_answer old new (Enqueue moment lane packet) said events m = ap is_refused m.0
  made_answer old new (Dequeue moment) said events m = ap is_refused m.1 ∙ answered m.0
    where
      answered : (given : Option Given) → is_refused (dequeue_answer given) ≡ false
      answered None = refl
      answered (Some g) = refl
  made_answer old new (Close moment) said events m = ap is_refused m.0

  -- a step that is answered as refused leaves everything and has no events
  refused_leaves : (old new : State Q) (step : Step) (said : Answer) (events : List Event) → Steps d old step said events new → is_refused said ≡ true → (events ≡ []) × (new ≡ old)
  refused_leaves old new step said events s t = go (refusal_of old step) s
    where
      go : (o : Option Refusal) → MatchOption o (Makes d old step said events new) (λ r. (said ≡ answer.Refused r) × (events ≡ []) × (new ≡ old)) → (events ≡ []) × (new ≡ old)
      go None m = absurd (false≢true (sym (made_answer old new step said events m) ∙ t))
      go (Some r) m = (m.1, m.2)

  without : (old new : State Q) (steps : List Step) (made : List Made) → Runs d old steps made new → Runs d old (steps_made steps made (λ m. m.answer)) (given_by_made made) new × (journal_of (given_by_made made) ≡ journal_of made)
  without old new [] [] r = (r, refl)
  without old new [] (m ∷ made) r = absurd r
  without old new (step ∷ steps) [] r = absurd r
  without old new (step ∷ steps) (m ∷ made) r =
      let rest = without r.0 new steps made r.2 in
      elim (cases_Bool (is_refused m.answer)) [
        | inl t ↦
            let same = refused_leaves old r.0 step m.answer m.events r.1 t in
            rw (t, same.0) (subst (λ (x : State Q). Runs d x (steps_made steps made (λ m. m.answer)) (given_by_made made) new) same.1 rest.0, rest.1)
        | inr t ↦ rw t ((r.0, r.1, rest.0), ap (λ es. m.events ++ es) rest.1)
      ]

  pub runs_without : (old new : State Q) (steps : List Step) (made : List Made) → Runs d old steps made new → Runs d old (steps_made steps made (λ m. m.answer)) (given_by_made made) new
  runs_without old new steps made r = (without old new steps made r).0

  pub journal_without : (old new : State Q) (steps : List Step) (made : List Made) → Runs d old steps made new → journal_of (given_by_made made) ≡ journal_of made
  journal_without old new steps made r = (without old new steps made r).1
