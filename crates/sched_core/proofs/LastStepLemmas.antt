-- The turns and the comparisons that a scheduler tells, one step on.
use Rattle.std.proofs.Common.{◌≡◌, ℕ, Bool, true, false, List, [], ◌∷◌, ◌++◌, take, length, slice_get, Option, Some, refl, ap, ◌∙◌, ◌⊎◌, inl, inr, append_assoc}
use Rattle.std.proofs.lemmas.List.Elements.{All-nil, All-push}
use Rattle.journal_core.specs.declared.outcome.Answer.{Answer}
use Rattle.journal_core.specs.declared.outcome.Answer.TheVariants as answer
use Rattle.journal_core.specs.declared.outcome.Outcome.{Outcome}
use Rattle.journal_core.specs.declared.step.Sent.{Sent}
use Rattle.journal_core.specs.declared.step.Step.{Step}
use Rattle.sched_core.specs.AnyStep.{GoesOn, IsDequeued}
use Rattle.fair_core.specs.FqCodel.{fq_codel}
use Rattle.sched_core.specs.LastSteps.{AreFewFor, AreFewOfLast, AreTurnsOfLast, AtLast, IsDequeueOf, is_dequeued, is_made}
use Rattle.sched_core.specs.LastSteps.AtLast.{none as at_none, last as at_last}
use Rattle.journal_core.specs.Runs.{IsRun}
use Rattle.sched_core.specs.Schedulers.{ComparesFew, Scheduler}

-- An outcome that passes is the last one that does, and one that doesn't pass changes nothing.
one_more : {test : Answer → Bool} {outcomes : List Outcome} {old new : ℕ} {Holds : ℕ → Outcome → ℕ → Type 0} (o : Outcome)
    → ((test o.answer ≡ true) × Holds (length outcomes) o new) ⊎ ((test o.answer ≡ false) × (new ≡ old))
    → AtLast test outcomes old Holds → AtLast test (outcomes ++ o ∷ []) new Holds
one_more {test} {outcomes} o (inl passes) before = at_last outcomes [] o refl passes.0 (All-nil (λ (x : Outcome). test x.answer ≡ false)) passes.1
one_more {test} {outcomes} o (inr fails) (at_none none_passes zero) = at_none (All-push (λ (x : Outcome). test x.answer ≡ false) outcomes o none_passes fails.0) (fails.1 ∙ zero)
one_more {test} o (inr fails) (at_last before behind x is passes later holds) =
    at_last before (behind ++ o ∷ []) x (ap (λ l. l ++ o ∷ []) is ∙ append_assoc before (x ∷ behind) (o ∷ [])) passes
    (All-push (λ (x : Outcome). test x.answer ≡ false) behind o later fails.0) (rw fails.1 holds)

module _ (steps : List Step) (outcomes : List Outcome) (old new : Scheduler) (step : Step) where
  -- the turns that are told behind one step more are those of the last dequeue
  pub turns_of_last : (o : Outcome) → slice_get steps (length outcomes) ≡ Some step
      → IsRun (fq_codel old.params old.seed) (take (length outcomes) steps) old.standing outcomes
      → GoesOn old step o.answer new
      → AreTurnsOfLast old.params old.seed steps outcomes old.turns → AreTurnsOfLast old.params old.seed steps (outcomes ++ o ∷ []) new.turns
  turns_of_last o found run g = one_more o (told o.answer g)
    where
      dequeued : (sent : Option Sent) → IsDequeued old step sent new → IsDequeueOf old.params old.seed steps (length outcomes) new.turns
      dequeued sent d = record {
        moment = d.moment;
        dequeues = found ∙ ap Some d.dequeues;
        made = run.made;
        before = old.standing.state;
        runs = run.runs;
        fits = d.serves.gives.fits;
        turns_made = d.serves.gives.serves.queues.turns;
        behind = new.standing.state.queues;
        chain = d.serves.gives.serves.queues.chain;
        told = d.serves.turns;
      }

      told : (said : Answer) → GoesOn old step said new
          → ((is_dequeued said ≡ true) × IsDequeueOf old.params old.seed steps (length outcomes) new.turns) ⊎ ((is_dequeued said ≡ false) × (new.turns ≡ old.turns))
      told answer.Accepted h = inr (refl, h.advances.turns)
      told answer.Sent h = inl (refl, dequeued (Some h.0) h.1)
      told answer.Idle h = inl (refl, dequeued _ h)
      told answer.Closed h = inr (refl, h.advances.turns)
      told (answer.Refused why) h = inr (refl, ap (λ (s : Scheduler). s.turns) h.1)

  -- and the comparisons those of the last step that wasn't refused
  pub comparisons_of_last : (o : Outcome) → o.first_event ≡ length old.standing.events → o.end_event ≡ length new.standing.events
      → GoesOn old step o.answer new
      → AreFewOfLast old.params outcomes old.comparisons → AreFewOfLast old.params (outcomes ++ o ∷ []) new.comparisons
  comparisons_of_last o first end g = one_more o (told o.answer g)
    where
      few : ComparesFew old new → AreFewFor old.params o new.comparisons
      few c = record { levels = c.levels; over_flows = c.over_flows; most = rw (first, end) c.most }

      told : (said : Answer) → GoesOn old step said new → ((is_made said ≡ true) × AreFewFor old.params o new.comparisons) ⊎ ((is_made said ≡ false) × (new.comparisons ≡ old.comparisons))
      told answer.Accepted h = inl (refl, few h.few_comparisons)
      told answer.Sent h = inl (refl, few h.1.few_comparisons)
      told answer.Idle h = inl (refl, few h.few_comparisons)
      told answer.Closed h = inl (refl, few h.few_comparisons)
      told (answer.Refused why) h = inr (refl, ap (λ (s : Scheduler). s.comparisons) h.1)
