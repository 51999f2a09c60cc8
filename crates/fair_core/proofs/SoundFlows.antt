-- The flows of a scheduler stay as many as they were, and sound: each is listed once at most, and has a flow state.
use Rattle.std.proofs.Common.{◌≡◌, ℕ, ◌+◌, ◌<◌, Bool, true, false, List, [], ◌∷◌, ◌++◌, length, replicate, Option, Some, None, pos, drop, refl, sym, ap, ◌∙◌, inl, inr, append_assoc}
use Rattle.std.proofs.lemmas.Bool.{cases_Bool}
use Rattle.std.proofs.lemmas.List.{length-replicate, length-set}
use Rattle.std.proofs.lemmas.List.Elements.{All-nil}
use Rattle.packet_core.specs.declared.packet.FiveTuple.{FiveTuple}
use Rattle.packet_core.specs.declared.packet.Waiting.{Waiting}
use Rattle.fair_core.specs.declared.flow_state.FlowState.{FlowState}
use Rattle.fair_core.specs.FairQueues.{AreSound, FairQueues, flow_state_at, new_flow_state, no_queues, queue_of}
use Rattle.fair_core.specs.FairQueueing.{Arrives, fair_queueing, is_listed, with_flow_listed}
use Rattle.fair_core.specs.Policies.{DropsFromHeads}
use Rattle.journal_core.specs.Runs.{Made, Runs, journal_of}
use Rattle.journal_core.specs.State.{State}
use Rattle.journal_core.specs.declared.event.Event.{Event}
use Rattle.journal_core.specs.declared.outcome.Answer.{Answer}
use Rattle.journal_core.specs.declared.step.Step.{Step}
use Rattle.journal_core.specs.declared.step.Step.TheVariants.{Enqueue, Dequeue, Close}
use Rattle.journal_core.specs.Steps.{Makes}
use Rattle.fair_core.specs.Turns.{Chain, Policy, Service, Turn, TurnMade, service_by}
use Rattle.fair_core.proofs.ListedFlowLemmas.{apart_from_any, distinct_between, within_between}
use Rattle.fair_core.proofs.RunInvariants.{all_fit, runs_keep}
use Rattle.fair_core.proofs.ServingChains.{turn_lowers}
use Rattle.fair_core.proofs.TurnLemmas.{chain_keeps, queues_stay, sends_of}

-- those are sound, and so many
pub record AreSoundFlows (flows : ℕ) (s : FairQueues) : Type 0 where
  pub sound : AreSound s
  pub as_many : length s.lists.queues ≡ flows

-- a scheduler before its first step
pub opening_sound : (flows : ℕ) → AreSoundFlows flows (no_queues flows)
opening_sound flows = record {
  sound = record {
    listed = record { within = All-nil (λ flow. flow < length (replicate {A = List Waiting} flows [])); once = tt };
    flow_states = length-replicate {A = FlowState} flows new_flow_state ∙ sym (length-replicate {A = List Waiting} flows []);
  };
  as_many = length-replicate {A = List Waiting} flows [];
}

module _ (p : Policy) where
  -- a flow that is listed, or stays listed
  listed_sound : (s : FairQueues) (flow : ℕ) → AreSound s → flow < length s.lists.queues → AreSound (with_flow_listed p s flow)
  listed_sound s flow sound within = go (is_listed s flow) refl
    where
      go : (b : Bool) → is_listed s flow ≡ b → AreSound (with_flow_listed p s flow)
      go true is = rw is sound
      go false is =
          let flow_state = record (flow_state_at s flow) { credits = pos p.quantum } in
          let e = append_assoc s.lists.new_flows (flow ∷ []) s.lists.old_flows in
          let apart = apart_from_any flow (s.lists.new_flows ++ s.lists.old_flows) is in
          rw is (record {
            listed = record {
              within = rw e (within_between (length s.lists.queues) flow s.lists.new_flows s.lists.old_flows within sound.listed.within);
              once = rw e (distinct_between flow s.lists.new_flows s.lists.old_flows apart sound.listed.once);
            };
            flow_states = length-set s.flow_states flow flow_state ∙ sound.flow_states;
          })

  listed_queues : (s : FairQueues) (flow : ℕ) → (with_flow_listed p s flow).lists.queues ≡ s.lists.queues
  listed_queues s flow = elim (cases_Bool (is_listed s flow)) [ inl t ↦ rw t refl | inr t ↦ rw t refl ]

  turn_as_many : (now : ℕ) (old new : FairQueues) (made : TurnMade) → Turn p now old made new → length new.lists.queues ≡ length old.lists.queues
  turn_as_many now old new made t = go (service_by made.kind) refl
    where
      go : (o : Option Service) → service_by made.kind ≡ o → length new.lists.queues ≡ length old.lists.queues
      go None is = ap length (queues_stay p now old new made t is)
      go (Some s) is = ap (λ (s : FairQueues). length s.lists.queues) (sends_of p now old new made s t is).leaves ∙ length-set old.lists.queues made.head.flow _

  pub chain_as_many : (now : ℕ) (turns : List TurnMade) (old new : FairQueues) → Chain p now old turns new → length new.lists.queues ≡ length old.lists.queues
  chain_as_many now turns old new c = chain_keeps p now (λ s. length s.lists.queues ≡ length old.lists.queues) (λ a b made t h. turn_as_many now a b made t ∙ h) turns old new c refl

  module _ (drops : DropsFromHeads p) where
    pub arrival_as_many : (old : FairQueues) (flow : ℕ) (w : Waiting) (lost : List Waiting) (new : FairQueues) → Arrives p old flow w lost new → length new.lists.queues ≡ length old.lists.queues
    arrival_as_many old flow w lost new a = drops.flows _ a.batches new.lists.queues a.overflow ∙ length-set old.lists.queues flow _

    -- the flows stay as many as they were
    pub makes_as_many : (flows : ℕ) (flow_of : FiveTuple → ℕ) (old new : State FairQueues) (step : Step) (said : Answer) (made : List Event) → Makes (fair_queueing p flows flow_of) old step said made new
        → length new.queues.lists.queues ≡ length old.queues.lists.queues
    makes_as_many flows flow_of old new (Enqueue moment lane packet) said made m = arrival_as_many old.queues (flow_of packet.tuple) _ m.1.lost new.queues m.1.queues
    makes_as_many flows flow_of old new (Dequeue moment) said made m = chain_as_many moment m.2.queues.turns old.queues new.queues m.2.queues.chain
    makes_as_many flows flow_of old new (Close moment) said made m = rw m.1.state refl

    pub arrival_sound : (flows : ℕ) (old : FairQueues) (flow : ℕ) (w : Waiting) (lost : List Waiting) (new : FairQueues) → Arrives p old flow w lost new → AreSoundFlows flows old → AreSoundFlows flows new
    arrival_sound flows old flow w lost new a h =
        let listed = listed_sound old flow h.sound a.within in
        let as_many = arrival_as_many old flow w lost new a in
        let same = as_many ∙ ap length (sym (listed_queues old flow)) in
        record {
          sound = rw a.rest (record {
            listed = record { within = rw same listed.listed.within; once = listed.listed.once };
            flow_states = listed.flow_states ∙ sym same;
          });
          as_many = as_many ∙ h.as_many;
        }

  module _ (some_quantum : 0 < p.quantum) where
    turn_sound : (now : ℕ) (old new : FairQueues) (made : TurnMade) → Turn p now old made new → AreSound old → AreSound new
    turn_sound now old new made t sound = go (service_by made.kind) refl
      where
        go : (o : Option Service) → service_by made.kind ≡ o → AreSound new
        go None is = (turn_lowers p some_quantum now old new made sound t is).0
        go (Some s) is =
            let d = sends_of p now old new made s t is in
            let same = length-set old.lists.queues made.head.flow (drop (d.drops + 1) (queue_of old made.head.flow)) in
            rw d.leaves (record {
              listed = record { within = rw same sound.listed.within; once = sound.listed.once };
              flow_states = length-set old.flow_states made.head.flow _ ∙ sound.flow_states ∙ sym same;
            })

    pub chain_sound : (flows now : ℕ) (turns : List TurnMade) (old new : FairQueues) → Chain p now old turns new → AreSoundFlows flows old → AreSoundFlows flows new
    chain_sound flows now turns old new c h = record {
      sound = chain_keeps p now AreSound (λ a b made t sound. turn_sound now a b made t sound) turns old new c h.sound;
      as_many = chain_as_many now turns old new c ∙ h.as_many;
    }

    pub runs_sound : DropsFromHeads p → (flows : ℕ) (flow_of : FiveTuple → ℕ) (old new : State FairQueues) (steps : List Step) (made : List Made) → Runs (fair_queueing p flows flow_of) old steps made new
        → AreSoundFlows flows old.queues → AreSoundFlows flows new.queues
    runs_sound drops flows flow_of old new steps made r h =
        runs_keep (fair_queueing p flows flow_of) (AreSoundFlows flows) (λ packet. Unit {0})
        (λ s w lost s' a fits sound. arrival_sound drops flows s (flow_of w.packet.tuple) w lost s' a sound)
        (λ s dropped given s' moment n sound. chain_sound flows moment n.turns s s' n.chain sound)
        old new steps made r (all_fit (journal_of made)) h
