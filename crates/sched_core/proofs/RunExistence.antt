-- Every list of steps has a run, whatever policy decides and drops from heads: each step has an answer, its events and
-- a state behind it, and the flows stay such that the next step has them too. FQ-CoDel's is such a policy.
use Rattle.std.proofs.Common.{◌≡◌, ℕ, ◌+◌, ◌<◌, true, All, List, [], ◌∷◌, ◌++◌, eqb, map, set, Option, Some, None, MatchOption, refl, subst, inl, inr}
use Rattle.std.specs.List.{AllByRecursion}
use Rattle.std.proofs.lemmas.Bool.{cases_Bool}
use Rattle.std.proofs.lemmas.List.Elements.{All-from_get_or, All-from_recursion, All-push, All-set, recursion_from_All}
use Rattle.packet_core.specs.FlowNumber.{flow_number}
use Rattle.packet_core.specs.Packets.{IsLengthInRange, PacketParts}
use Rattle.packet_core.specs.Params.{AreInRange}
use Rattle.packet_core.specs.declared.flow.Seed.{Seed}
use Rattle.packet_core.specs.declared.packet.FiveTuple.{FiveTuple}
use Rattle.packet_core.specs.declared.packet.Waiting.{Waiting}
use Rattle.packet_core.specs.declared.params.ParamFields.{ParamFields}
use Rattle.flow_core.specs.FlowLists.{queue_at}
use Rattle.journal_core.specs.declared.event.Cause.TheVariants as cause
use Rattle.journal_core.specs.declared.event.Event.{Event}
use Rattle.journal_core.specs.declared.event.Event.TheVariants as event
use Rattle.journal_core.specs.declared.outcome.Answer.{Answer}
use Rattle.journal_core.specs.declared.outcome.Answer.TheVariants as answer
use Rattle.journal_core.specs.declared.step.Refusal.{Refusal}
use Rattle.journal_core.specs.declared.step.Step.{Step}
use Rattle.journal_core.specs.declared.step.Step.TheVariants.{Enqueue, Dequeue, Close}
use Rattle.journal_core.specs.Disciplines.{Given, packets_of, with_arrival}
use Rattle.fair_core.specs.FairQueueing.{Arrives, ServesNext, dropped_in, fair_queueing, given_in, with_flow_listed, with_queues}
use Rattle.fair_core.specs.FairQueues.{FairQueues, no_queues, queue_of}
use Rattle.fair_core.specs.FqCodel.{fq_codel, fq_codel_policy}
use Rattle.fair_core.specs.Policies.{DropsFromHeads, IsDecided}
use Rattle.journal_core.specs.Runs.{HasLengthInRange, Made, Runs}
use Rattle.journal_core.specs.State.{State, arrival, opening_state, refusal_of}
use Rattle.journal_core.specs.Steps.{Makes, Steps, dequeue_answer, drop_event, sent_events}
use Rattle.fair_core.specs.Turns.{Policy, service_in}
use Rattle.fair_core.proofs.ServingChains.{chain_there}
use Rattle.fair_core.proofs.FairFifo.{fair_is_fifo}
use Rattle.fair_core.proofs.FqCodelPolicy.{VerdictLaws, policy_decided, policy_drops}
use Rattle.sched_core.proofs.FqCodelRuns.{flow_below}
use Rattle.journal_core.proofs.ListLemmas.{ByRecursion-append, ByRecursion-parts}
use Rattle.fair_core.proofs.RunInvariants.{BringsFitting, steps_keep}
use Rattle.fair_core.proofs.SoundFlows.{AreSoundFlows, arrival_sound, chain_sound, opening_sound}

-- a packet that waits has a length that packets have
abbrev pub HasLength : Waiting → Type 0
HasLength w = IsLengthInRange w.packet.len

-- the packets behind others in a queue have one
behind : (gone q : List Waiting) → AllByRecursion HasLength (gone ++ q) → AllByRecursion HasLength q
behind gone q have = (ByRecursion-parts HasLength gone q have).1

length_fits : (step : Step) → HasLengthInRange step → BringsFitting (λ packet. IsLengthInRange packet.len) step
length_fits (Enqueue moment lane packet) has = has
length_fits (Dequeue moment) has = tt
length_fits (Close moment) has = tt

with_one_more : (s : FairQueues) (flow : ℕ) (w : Waiting) → HasLength w → ((f : ℕ) → AllByRecursion HasLength (queue_of s f))
    → (f : ℕ) → AllByRecursion HasLength (with_arrival (queue_of s) flow w f)
with_one_more s flow w has have f =
    elim (cases_Bool (eqb flow f)) [
      | inl t ↦ rw t (ByRecursion-append HasLength (queue_of s f) (w ∷ []) (have f) (has, tt))
      | inr t ↦ rw t (ByRecursion-append HasLength (queue_of s f) [] (have f) tt)
    ]

module _ (p : Policy) (drops : DropsFromHeads p) (decided : IsDecided p) (flows : ℕ) (flow_of : FiveTuple → ℕ)
    (flow_is : (tuple : FiveTuple) → flow_of tuple < flows) where
  -- the flows that any step may be made from
  pub record AreReady (s : FairQueues) : Type 0 where
    pub flows_sound : AreSoundFlows flows s
    pub lengths : (flow : ℕ) → AllByRecursion HasLength (queue_of s flow)

  opening_ready : AreReady (no_queues flows)
  opening_ready = record { flows_sound = opening_sound flows; lengths = λ flow. rw ((fair_is_fifo p drops flows flow_of).opens flow) tt }

  arrival_ready : (old : FairQueues) (w : Waiting) (lost : List Waiting) (new : FairQueues) → Arrives p old (flow_of w.packet.tuple) w lost new → HasLength w → AreReady old → AreReady new
  arrival_ready old w lost new a has ready = record {
    flows_sound = arrival_sound p drops flows old (flow_of w.packet.tuple) w lost new a ready.flows_sound;
    lengths = λ f. behind _ (queue_of new f) (subst (AllByRecursion HasLength) (((fair_is_fifo p drops flows flow_of).admits old w lost new a).2 f) (with_one_more old (flow_of w.packet.tuple) w has ready.lengths f));
  }

  serve_ready : (old : FairQueues) (dropped : List Waiting) (given : Option Given) (new : FairQueues) (moment : ℕ) → ServesNext p moment old dropped given new → AreReady old → AreReady new
  serve_ready old dropped given new moment n ready = record {
    flows_sound = chain_sound p decided.quantum flows moment n.turns old new n.chain ready.flows_sound;
    lengths = λ f. behind _ (queue_of new f) (subst (AllByRecursion HasLength) (((fair_is_fifo p drops flows flow_of).serves old moment dropped given new n).0.1 f) (ready.lengths f));
  }

  steps_ready : (old new : State FairQueues) (step : Step) (said : Answer) (made : List Event)
      → Steps (fair_queueing p flows flow_of) old step said made new → HasLengthInRange step
      → AreReady old.queues → AreReady new.queues
  steps_ready old new step said made s has ready =
      steps_keep (fair_queueing p flows flow_of) AreReady (λ packet. IsLengthInRange packet.len) arrival_ready serve_ready old new step said made s (length_fits step has) ready

  -- with a packet more in one queue
  arrived_lengths : (s : FairQueues) (flow : ℕ) (w : Waiting) → AreReady s → HasLength w
      → All (All HasLength) (set s.lists.queues flow (queue_at s.lists flow ++ w ∷ []))
  arrived_lengths s flow w ready has =
      let at = λ (f : ℕ). All-from_recursion HasLength (queue_of s f) (ready.lengths f) in
      let all = All-from_get_or (All HasLength) s.lists.queues [] (λ i below. at i) in
      All-set (All HasLength) s.lists.queues flow _ (All-push HasLength (queue_at s.lists flow) w (at flow) has) all

  -- what a step gives from a state
  abbrev MakesThere : State FairQueues → Step → Type 0
  MakesThere old step =
      (said : Answer) × (made : List Event) × (new : State FairQueues)
      × Makes (fair_queueing p flows flow_of) old step said made new

  admits_there : (old : State FairQueues) (moment lane : ℕ) (packet : PacketParts)
      → AreReady old.queues → IsLengthInRange packet.len → MakesThere old (Enqueue moment lane packet)
  admits_there old moment lane packet ready has =
      let flow = flow_of packet.tuple in
      let overflow = decided.overflows _ (arrived_lengths old.queues flow (arrival old moment packet) ready has) in
      let listed = with_flow_listed p old.queues flow in (
        answer.Accepted,
        event.Accepted lane old.next_id moment flow packet ∷ map (drop_event moment cause.Overflow) (packets_of overflow.0),
        record {
          queues = with_queues listed overflow.1;
          next_id = old.next_id + 1;
          last = moment;
          closed = old.closed;
        },
        (
          refl,
          record {
            lost = packets_of overflow.0;
            queues = record {
              within = rw ready.flows_sound.as_many (flow_is packet.tuple);
              batches = overflow.0;
              overflow = overflow.2;
              lost_in_order = refl;
              rest = refl;
            };
            told = refl;
            next_id = refl;
            last = refl;
            closed = refl;
          },
        ),
      )

  serves_there : (old : State FairQueues) (moment : ℕ) → AreReady old.queues → MakesThere old (Dequeue moment)
  serves_there old moment ready =
      let c = chain_there p decided moment old.queues ready.flows_sound.sound in
      let service = service_in c.0 in (
        dequeue_answer (given_in service),
        map (drop_event moment cause.Codel) (dropped_in service) ++ sent_events moment (given_in service),
        record { queues = c.1; next_id = old.next_id; last = moment; closed = old.closed },
        (
          given_in service,
          refl,
          record {
            dropped = dropped_in service;
            queues = record { turns = c.0; chain = c.2; dropped_by = refl; given_by = refl };
            told = refl;
            next_id = refl;
            last = refl;
            closed = refl;
          },
        ),
      )

  makes_there : (old : State FairQueues) (step : Step) → AreReady old.queues → HasLengthInRange step → MakesThere old step
  makes_there old (Enqueue moment lane packet) ready has = admits_there old moment lane packet ready has
  makes_there old (Dequeue moment) ready has = serves_there old moment ready
  makes_there old (Close moment) ready has = (answer.Closed, event.Closed moment ∷ [], record old { last = moment; closed = true }, (refl, record { told = refl; state = refl }))

  steps_there : (old : State FairQueues) (step : Step) → AreReady old.queues → HasLengthInRange step
      → (said : Answer) × (made : List Event) × (new : State FairQueues)
      × Steps (fair_queueing p flows flow_of) old step said made new
  steps_there old step ready has = go (refusal_of old step)
    where
      go : (o : Option Refusal) → (said : Answer) × (made : List Event) × (new : State FairQueues)
          × MatchOption o (Makes (fair_queueing p flows flow_of) old step said made new)
          (λ r. (said ≡ answer.Refused r) × (made ≡ []) × (new ≡ old))
      go None = makes_there old step ready has
      go (Some r) = (answer.Refused r, [], old, (refl, refl, refl))

  pub runs_there : (old : State FairQueues) (steps : List Step)
      → AreReady old.queues → AllByRecursion HasLengthInRange steps
      → (made : List Made) × (new : State FairQueues) × Runs (fair_queueing p flows flow_of) old steps made new
  runs_there old [] ready has = ([], old, refl)
  runs_there old (step ∷ steps) ready has =
      let s = steps_there old step ready has.0 in
      let rest = runs_there s.2 steps (steps_ready old s.2 step s.0 s.1 s.3 has.0 ready) has.1 in
      (record { answer = s.0; events = s.1 } ∷ rest.0, rest.1, (s.2, s.3, rest.2))

-- one run at least
pub fq_codel_there : VerdictLaws → (p : ParamFields) (seed : Seed) → AreInRange p
    → (steps : List Step) → All HasLengthInRange steps
    → (made : List Made) × (new : State FairQueues)
    × Runs (fq_codel p seed) (opening_state (no_queues p.flows)) steps made new
fq_codel_there laws p seed range steps has =
    let decided = policy_decided laws p range in
    let flow_of = flow_number p.classify p.flows seed in
    let flow_is = λ (tuple : FiveTuple). flow_below p.classify p.flows seed tuple range.flows.0 in
    let ready = opening_ready (fq_codel_policy p) (policy_drops p) decided p.flows flow_of flow_is in
    runs_there (fq_codel_policy p) (policy_drops p) decided p.flows flow_of flow_is
    (opening_state (no_queues p.flows)) steps ready (recursion_from_All HasLengthInRange steps has)
