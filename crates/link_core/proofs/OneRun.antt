-- A discipline that leaves no choice in an acceptance or a dequeue has one run at most.
use Rattle.std.proofs.Common.{◌≡◌, ℕ, List, [], ◌∷◌, ◌++◌, map, Option, Some, None, MatchOption, refl, sym, ap, subst, ◌∙◌}
use Rattle.packet_core.specs.declared.packet.Waiting.{Waiting}
use Rattle.journal_core.specs.declared.event.Cause.TheVariants as cause
use Rattle.journal_core.specs.declared.event.Event.{Event}
use Rattle.journal_core.specs.declared.event.Event.TheVariants.{Accepted}
use Rattle.journal_core.specs.declared.outcome.Answer.{Answer}
use Rattle.journal_core.specs.declared.outcome.Answer.TheVariants as answer
use Rattle.journal_core.specs.declared.step.Refusal.{Refusal}
use Rattle.journal_core.specs.declared.step.Step.{Step}
use Rattle.journal_core.specs.declared.step.Step.TheVariants.{Enqueue, Dequeue, Close}
use Rattle.journal_core.specs.Disciplines.{Discipline, Given}
use Rattle.journal_core.specs.Runs.{Made, Runs}
use Rattle.journal_core.specs.State.{State, refusal_of}
use Rattle.journal_core.specs.Steps.{Makes, Steps, dequeue_answer, drop_event, sent_events}

module _ {Q : Type 0} (d : Discipline Q)
    (admits_once : (old new new' : Q) (w : Waiting) (lost lost' : List Waiting) → d.admits old w lost new → d.admits old w lost' new' → (lost ≡ lost') × (new ≡ new'))
    (serves_once : (old new new' : Q) (moment : ℕ) (dropped dropped' : List Waiting) (given given' : Option Given) → d.serves old moment dropped given new → d.serves old moment dropped' given' new' → (dropped ≡ dropped') × (given ≡ given') × (new ≡ new')) where
  -- the same state, part by part
  same_state : (a b : State Q) → a.queues ≡ b.queues → a.next_id ≡ b.next_id → a.last ≡ b.last → a.closed ≡ b.closed → a ≡ b
  same_state a b q n l c = λ i. record { queues = q i; next_id = n i; last = l i; closed = c i }

  abbrev SameStep : Answer → List Event → State Q → Answer → List Event → State Q → Type 0
  SameStep said made new said' made' new' = (said ≡ said') × (made ≡ made') × (new ≡ new')

  -- a step that isn't refused
  makes_once : (old new new' : State Q) (step : Step) (said said' : Answer) (made made' : List Event) → Makes d old step said made new → Makes d old step said' made' new' → SameStep said made new said' made' new'
  makes_once old new new' (Enqueue moment lane packet) said said' made made' m m' =
      let same = admits_once old.queues new.queues new'.queues _ m.1.lost m'.1.lost m.1.queues m'.1.queues in (
        m.0 ∙ sym m'.0,
        m.1.told ∙ ap (λ (lost : List Waiting). Accepted lane old.next_id moment (d.flow_of packet.tuple) packet ∷ map (drop_event moment cause.Overflow) lost) same.0 ∙ sym m'.1.told,
        same_state new new' same.1 (m.1.next_id ∙ sym m'.1.next_id) (m.1.last ∙ sym m'.1.last) (m.1.closed ∙ sym m'.1.closed),
      )
  makes_once old new new' (Dequeue moment) said said' made made' m m' =
      let same = serves_once old.queues new.queues new'.queues moment m.2.dropped m'.2.dropped m.0 m'.0 m.2.queues m'.2.queues in (
        m.1 ∙ ap dequeue_answer same.1 ∙ sym m'.1,
        m.2.told ∙ (λ i. map (drop_event moment cause.Codel) (same.0 i) ++ sent_events moment (same.1 i)) ∙ sym m'.2.told,
        same_state new new' same.2 (m.2.next_id ∙ sym m'.2.next_id) (m.2.last ∙ sym m'.2.last) (m.2.closed ∙ sym m'.2.closed),
      )
  makes_once old new new' (Close moment) said said' made made' m m' = (m.0 ∙ sym m'.0, m.1.told ∙ sym m'.1.told, m.1.state ∙ sym m'.1.state)

  -- or is
  steps_once : (old new new' : State Q) (step : Step) (said said' : Answer) (made made' : List Event) → Steps d old step said made new → Steps d old step said' made' new' → SameStep said made new said' made' new'
  steps_once old new new' step said said' made made' s s' = go (refusal_of old step) s s'
    where
      go : (o : Option Refusal) → MatchOption o (Makes d old step said made new) (λ r. (said ≡ answer.Refused r) × (made ≡ []) × (new ≡ old))
          → MatchOption o (Makes d old step said' made' new') (λ r. (said' ≡ answer.Refused r) × (made' ≡ []) × (new' ≡ old)) → SameStep said made new said' made' new'
      go None m m' = makes_once old new new' step said said' made made' m m'
      go (Some r) m m' = (m.0 ∙ sym m'.0, m.1 ∙ sym m'.1, m.2 ∙ sym m'.2)

  -- and all steps in turn
  pub runs_once : (steps : List Step) (made made' : List Made) (old new new' : State Q) → Runs d old steps made new → Runs d old steps made' new' → (made ≡ made') × (new ≡ new')
  runs_once [] [] [] old new new' r r' = (refl, r ∙ sym r')
  runs_once [] (m ∷ made) made' old new new' r r' = absurd r
  runs_once [] [] (m' ∷ made') old new new' r r' = absurd r'
  runs_once (step ∷ steps) [] made' old new new' r r' = absurd r
  runs_once (step ∷ steps) (m ∷ made) [] old new new' r r' = absurd r'
  runs_once (step ∷ steps) (m ∷ made) (m' ∷ made') old new new' r r' =
      let same = steps_once old r.0 r'.0 step m.answer m'.answer m.events m'.events r.1 r'.1 in
      let rest = runs_once steps made made' r.0 new new' r.2 (subst (λ (mid : State Q). Runs d mid steps made' new') (sym same.2) r'.2) in
      let m_same : m ≡ m' = λ i. record { answer = same.0 i; events = same.1 i } in
      (λ i. m_same i ∷ rest.0 i, rest.1)
