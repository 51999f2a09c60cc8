-- The definitions leave no choice: from one state a list of steps has one run at most, with one answer and one list of events for each step, whatever
-- policy it is that decides. FQ-CoDel's does.
-- So what a worked example shows is the only outcome.
use Rattle.std.proofs.Common.{◌≡◌, ℕ, List, [], ◌∷◌, ◌++◌, map, set, Option, Some, None, MatchOption, refl, sym, ap, subst, ◌∙◌}
use Rattle.packet_core.specs.Params.{AreInRange}
use Rattle.packet_core.specs.FlowNumber.{flow_number}
use Rattle.packet_core.specs.declared.flow.Seed.{Seed}
use Rattle.packet_core.specs.declared.packet.FiveTuple.{FiveTuple}
use Rattle.packet_core.specs.declared.packet.Waiting.{Waiting}
use Rattle.packet_core.specs.declared.params.ParamFields.{ParamFields}
use Rattle.flow_core.specs.FlowLists.{queue_at}
use Rattle.journal_core.specs.declared.event.Cause.TheVariants as cause
use Rattle.journal_core.specs.declared.event.Event.{Event}
use Rattle.journal_core.specs.declared.event.Event.TheVariants as event
use Rattle.journal_core.specs.declared.outcome.Answer.{Answer}
use Rattle.journal_core.specs.declared.outcome.Answer.TheVariants as answer
use Rattle.journal_core.specs.declared.step.Refusal.{Refusal}
use Rattle.journal_core.specs.declared.step.Step.{Step}
use Rattle.journal_core.specs.declared.step.Step.TheVariants.{Enqueue, Dequeue, Close}
use Rattle.journal_core.specs.Disciplines.{packets_of}
use Rattle.fair_core.specs.FairQueueing.{Arrives, dropped_in, fair_queueing, given_in, with_flow_listed, with_queues}
use Rattle.fair_core.specs.FairQueues.{FairQueues}
use Rattle.fair_core.specs.FqCodel.{fq_codel, fq_codel_policy}
use Rattle.fair_core.specs.Policies.{IsDecided}
use Rattle.journal_core.specs.Runs.{Made, Runs}
use Rattle.journal_core.specs.State.{State, refusal_of}
use Rattle.journal_core.specs.Steps.{Makes, Steps, dequeue_answer, drop_event, sent_events}
use Rattle.fair_core.specs.Turns.{Policy, TurnMade, service_in}
use Rattle.fair_core.proofs.ServingChains.{chain_once}
use Rattle.fair_core.proofs.FqCodelPolicy.{VerdictLaws, policy_decided}

-- the same state, part by part
same_state : (a b : State FairQueues) → a.queues ≡ b.queues → a.next_id ≡ b.next_id → a.last ≡ b.last → a.closed ≡ b.closed → a ≡ b
same_state a b q n l c = λ i. record { queues = q i; next_id = n i; last = l i; closed = c i }

module _ (p : Policy) (decided : IsDecided p) (flows : ℕ) (flow_of : FiveTuple → ℕ) where
  arrival_once : (old : FairQueues) (flow : ℕ) (w : Waiting) (lost lost' : List Waiting) (new new' : FairQueues) → Arrives p old flow w lost new → Arrives p old flow w lost' new'
      → (lost ≡ lost') × (new ≡ new')
  arrival_once old flow w lost lost' new new' a a' =
      let same = decided.overflows_once (set old.lists.queues flow (queue_at old.lists flow ++ w ∷ [])) new.lists.queues new'.lists.queues a.batches a'.batches a.overflow a'.overflow in
      (a.lost_in_order ∙ ap packets_of same.0 ∙ sym a'.lost_in_order, a.rest ∙ ap (with_queues (with_flow_listed p old flow)) same.1 ∙ sym a'.rest)

  abbrev SameStep : Answer → List Event → State FairQueues → Answer → List Event → State FairQueues → Type 0
  SameStep said made new said' made' new' = (said ≡ said') × (made ≡ made') × (new ≡ new')

  makes_once : (old new new' : State FairQueues) (step : Step) (said said' : Answer) (made made' : List Event) → Makes (fair_queueing p flows flow_of) old step said made new → Makes (fair_queueing p flows flow_of) old step said' made' new'
      → SameStep said made new said' made' new'
  makes_once old new new' (Enqueue moment lane packet) said said' made made' m m' =
      let same = arrival_once old.queues (flow_of packet.tuple) _ m.1.lost m'.1.lost new.queues new'.queues m.1.queues m'.1.queues in (
        m.0 ∙ sym m'.0,
        m.1.told ∙ ap (λ (lost : List Waiting). event.Accepted lane old.next_id moment (flow_of packet.tuple) packet ∷ map (drop_event moment cause.Overflow) lost) same.0 ∙ sym m'.1.told,
        same_state new new' same.1 (m.1.next_id ∙ sym m'.1.next_id) (m.1.last ∙ sym m'.1.last) (m.1.closed ∙ sym m'.1.closed),
      )
  makes_once old new new' (Dequeue moment) said said' made made' m m' =
      let c = m.2.queues in
      let c' = m'.2.queues in
      let same = chain_once p decided moment c.turns c'.turns old.queues new.queues new'.queues c.chain c'.chain in
      let given : m.0 ≡ m'.0 = c.given_by ∙ ap (λ (turns : List TurnMade). given_in (service_in turns)) same.0 ∙ sym c'.given_by in
      let dropped : m.2.dropped ≡ m'.2.dropped = c.dropped_by ∙ ap (λ (turns : List TurnMade). dropped_in (service_in turns)) same.0 ∙ sym c'.dropped_by in (
        m.1 ∙ ap dequeue_answer given ∙ sym m'.1,
        m.2.told ∙ (λ i. map (drop_event moment cause.Codel) (dropped i) ++ sent_events moment (given i)) ∙ sym m'.2.told,
        same_state new new' same.1 (m.2.next_id ∙ sym m'.2.next_id) (m.2.last ∙ sym m'.2.last) (m.2.closed ∙ sym m'.2.closed),
      )
  makes_once old new new' (Close moment) said said' made made' m m' = (m.0 ∙ sym m'.0, m.1.told ∙ sym m'.1.told, m.1.state ∙ sym m'.1.state)

  steps_once : (old new new' : State FairQueues) (step : Step) (said said' : Answer) (made made' : List Event) → Steps (fair_queueing p flows flow_of) old step said made new → Steps (fair_queueing p flows flow_of) old step said' made' new'
      → SameStep said made new said' made' new'
  steps_once old new new' step said said' made made' s s' = go (refusal_of old step) s s'
    where
      go : (o : Option Refusal) → MatchOption o (Makes (fair_queueing p flows flow_of) old step said made new) (λ r. (said ≡ answer.Refused r) × (made ≡ []) × (new ≡ old))
          → MatchOption o (Makes (fair_queueing p flows flow_of) old step said' made' new') (λ r. (said' ≡ answer.Refused r) × (made' ≡ []) × (new' ≡ old))
          → SameStep said made new said' made' new'
      go None m m' = makes_once old new new' step said said' made made' m m'
      go (Some r) m m' = (m.0 ∙ sym m'.0, m.1 ∙ sym m'.1, m.2 ∙ sym m'.2)

  pub runs_once : (old new new' : State FairQueues) (steps : List Step) (made made' : List Made) → Runs (fair_queueing p flows flow_of) old steps made new → Runs (fair_queueing p flows flow_of) old steps made' new'
      → (made ≡ made') × (new ≡ new')
  runs_once old new new' [] [] [] r r' = (refl, r ∙ sym r')
  runs_once old new new' [] (m ∷ made) made' r r' = absurd r
  runs_once old new new' [] [] (m' ∷ made') r r' = absurd r'
  runs_once old new new' (step ∷ steps) [] made' r r' = absurd r
  runs_once old new new' (step ∷ steps) (m ∷ made) [] r r' = absurd r'
  runs_once old new new' (step ∷ steps) (m ∷ made) (m' ∷ made') r r' =
      let same = steps_once old r.0 r'.0 step m.answer m'.answer m.events m'.events r.1 r'.1 in
      let rest = runs_once r.0 new new' steps made made' r.2 (subst (λ (mid : State FairQueues). Runs (fair_queueing p flows flow_of) mid steps made' new') (sym same.2) r'.2) in
      let m_same : m ≡ m' = λ i. record { answer = same.0 i; events = same.1 i } in
      (λ i. m_same i ∷ rest.0 i, rest.1)

-- one run at most
pub fq_codel_once : VerdictLaws → (p : ParamFields) (seed : Seed) → AreInRange p → (old new new' : State FairQueues) (steps : List Step) (made made' : List Made)
    → Runs (fq_codel p seed) old steps made new → Runs (fq_codel p seed) old steps made' new' → (made ≡ made') × (new ≡ new')
fq_codel_once laws p seed range old new new' steps made made' r r' = runs_once (fq_codel_policy p) (policy_decided laws p range) p.flows (flow_number p.classify p.flows seed) old new new' steps made made' r r'
