-- While a link is idle, nothing waits.
use Rattle.std.proofs.Common.{◌≡◌, ℕ, ◌<◌, ◌≤◌, true, false, List, [], ◌∷◌, ◌++◌, length, map, filter, eqb, Option, Some, None, MatchOption, refl, sym, ap, subst, ◌∙◌, inl, inr, arith}
use Rattle.std.specs.List.{AllByRecursion, filter_map}
use Rattle.std.proofs.lemmas.Bool.{eq-eqb}
use Rattle.std.proofs.lemmas.List.Elements.{recursion_from_All}
use Rattle.packet_core.specs.Packets.{PacketParts}
use Rattle.packet_core.specs.declared.flow.Seed.{Seed}
use Rattle.packet_core.specs.declared.packet.Waiting.{Waiting}
use Rattle.packet_core.specs.declared.params.ParamFields.{ParamFields}
use Rattle.journal_core.specs.declared.event.Cause.TheVariants as cause
use Rattle.journal_core.specs.declared.event.Event.{Event}
use Rattle.journal_core.specs.declared.outcome.Answer.{Answer}
use Rattle.journal_core.specs.declared.outcome.Answer.TheVariants as answer
use Rattle.journal_core.specs.declared.step.Refusal.{Refusal}
use Rattle.journal_core.specs.declared.step.Step.{Step}
use Rattle.journal_core.specs.declared.step.Step.TheVariants.{Dequeue}
use Rattle.journal_core.specs.Disciplines.{Discipline, Given}
use Rattle.journal_core.specs.Happened.{Acceptance, waiting_of}
use Rattle.journal_core.specs.Runs.{Made, Runs, is_refused}
use Rattle.journal_core.specs.State.{State, opening_state, refusal_of}
use Rattle.journal_core.specs.Statistics.{sent_of}
use Rattle.journal_core.specs.Steps.{Makes, Serves, Steps}
use Rattle.fair_core.specs.FairQueueing.{given_in}
use Rattle.fair_core.specs.FairQueues.{FairQueues, head_of, head_of_lists, no_queues, queue_of}
use Rattle.fair_core.specs.FqCodel.{fq_codel, fq_codel_policy}
use Rattle.fair_core.specs.Turns.{Chain, Policy, Service, TurnMade, service_in}
use Rattle.fair_core.proofs.FqCodelPolicy.{policy_drops}
use Rattle.fair_core.proofs.OldFlows.{Has}
use Rattle.fair_core.proofs.RunInvariants.{BringsFitting, steps_keep}
use Rattle.fair_core.proofs.ServableFlows.{AreServable, arrival_servable, chain_servable, opening_servable}
use Rattle.packet_core.specs.FlowNumber.{flow_number}
use Rattle.link_core.specs.declared.arrival.Arrival.{Arrival}
use Rattle.link_core.specs.declared.link.LinkFields.{LinkFields}
use Rattle.link_core.specs.LinkLaw.{Follows, LinkPoint, LinkState, MovesFrom, after_ids}
use Rattle.link_core.specs.LinkLaw.LinkState.{idle, asks, free}
use Rattle.link_core.specs.LinkRuns.{IsLinkRunTo}
use Rattle.link_core.specs.Underway.{start_of}
use Rattle.link_core.proofs.SentIds.{given_ids, sent_ids_of}

-- a link that is idle behind a dequeue was given nothing
idle_none : (link : LinkFields) (arrivals : List Arrival) (units : ℕ) (ids : List ℕ) → after_ids link arrivals units ids ≡ idle → ids ≡ []
idle_none link arrivals units [] is = refl
idle_none link arrivals units (id ∷ ids) is = absurd cc

-- the step that makes a link idle
record MakesIdle (step : Step) (events : List Event) : Type 0 where
  pub moment : ℕ
  pub dequeues : step ≡ Dequeue moment
  pub nothing : filter_map sent_of events ≡ []

idle_by : (link : LinkFields) (arrivals : List Arrival) (state : LinkState) (coming : List Arrival) (step : Step) (events : List Event) (new : LinkPoint)
    → MovesFrom link arrivals state coming step events new → new.state ≡ idle → MakesIdle step events
idle_by link arrivals idle [] step events new m is = absurd m
idle_by link arrivals idle (a ∷ rest) step events new m is = let e : asks a.moment ≡ idle = sym (ap (λ (x : LinkPoint). x.state) m.leads) ∙ is in absurd cc
idle_by link arrivals (asks t) coming step events new m is =
    record { moment = _; dequeues = m.dequeues; nothing = idle_none link arrivals _ (filter_map sent_of events) (sym (ap (λ (x : LinkPoint). x.state) m.leads) ∙ is) }
idle_by link arrivals (free u) [] step events new m is =
    record { moment = _; dequeues = m.dequeues; nothing = idle_none link arrivals _ (filter_map sent_of events) (sym (ap (λ (x : LinkPoint). x.state) m.leads) ∙ is) }
idle_by link arrivals (free u) (a ∷ rest) step events new (inl m) is = let e : free u ≡ idle = sym (ap (λ (x : LinkPoint). x.state) m.1.leads) ∙ is in absurd cc
idle_by link arrivals (free u) (a ∷ rest) step events new (inr m) is =
    record { moment = _; dequeues = m.1.dequeues; nothing = idle_none link arrivals _ (filter_map sent_of events) (sym (ap (λ (x : LinkPoint). x.state) m.1.leads) ∙ is) }

-- each packet that is still to come fits
abbrev pub ComeFitting : (PacketParts → Type 0) → List Arrival → Type 0
ComeFitting Fits coming = AllByRecursion (λ (a : Arrival). Fits a.packet) coming

-- and so does what a step brings, and what is still to come then
brings : (Fits : PacketParts → Type 0) (link : LinkFields) (arrivals : List Arrival) (state : LinkState) (coming : List Arrival) (step : Step) (events : List Event) (new : LinkPoint)
    → MovesFrom link arrivals state coming step events new → ComeFitting Fits coming → BringsFitting Fits step × ComeFitting Fits new.coming
brings Fits link arrivals idle [] step events new m have = absurd m
brings Fits link arrivals idle (a ∷ rest) step events new m have = rw (m.enqueues, m.leads) have
brings Fits link arrivals (asks t) coming step events new m have = rw (m.dequeues, m.leads) (tt, have)
brings Fits link arrivals (free u) [] step events new m have = rw (m.dequeues, m.leads) (tt, have)
brings Fits link arrivals (free u) (a ∷ rest) step events new (inl m) have = rw (m.1.enqueues, m.1.leads) have
brings Fits link arrivals (free u) (a ∷ rest) step events new (inr m) have = rw (m.1.dequeues, m.1.leads) (tt, have)

no_ids : (given : Option Given) → given_ids given ≡ [] → given ≡ None
no_ids None e = refl
no_ids (Some g) e = absurd cc

-- A discipline that gives no packet only where none waits: what has to hold of its queues for that is kept by each step.
module _ {Q : Type 0} (d : Discipline Q) (Fits : PacketParts → Type 0) (IsReady HasNone : Q → Type 0)
    (stays_ready : (old new : State Q) (step : Step) (said : Answer) (events : List Event) → Steps d old step said events new → BringsFitting Fits step → IsReady old.queues → IsReady new.queues)
    (gives_none : (old new : Q) (moment : ℕ) (dropped : List Waiting) → d.serves old moment dropped None new → IsReady new → HasNone new)
    (link : LinkFields) (arrivals : List Arrival) where
  served_empty : (old new : State Q) (moment : ℕ) (given : Option Given) (events : List Event) → Serves d old moment given events new → filter_map sent_of events ≡ [] → IsReady new.queues → HasNone new.queues
  served_empty old new moment given events s nothing ready =
      let none : given ≡ None = no_ids given (sym (ap (filter_map sent_of) s.told ∙ sent_ids_of moment cause.Codel s.dropped given) ∙ nothing) in
      gives_none old.queues new.queues moment s.dropped (subst (λ (o : Option Given). d.serves old.queues moment s.dropped o new.queues) none s.queues) ready

  step_empty : (old new : State Q) (moment : ℕ) (said : Answer) (events : List Event) → Steps d old (Dequeue moment) said events new → is_refused said ≡ false → filter_map sent_of events ≡ [] → IsReady new.queues → HasNone new.queues
  step_empty old new moment said events s accepted nothing ready = go (refusal_of old (Dequeue moment)) s
    where
      go : (o : Option Refusal) → MatchOption o (Makes d old (Dequeue moment) said events new) (λ r. (said ≡ answer.Refused r) × (events ≡ []) × (new ≡ old)) → HasNone new.queues
      go None m = served_empty old new moment m.0 events m.2 nothing ready
      go (Some r) m = let t : true ≡ false = sym (ap is_refused m.0) ∙ accepted in absurd cc

  -- at every point of a run
  pub idle_empty : (steps : List Step) (made : List Made) (point end : LinkPoint) (old new : State Q) → Follows link arrivals point steps made end → Runs d old steps made new → AllByRecursion (λ (m : Made). is_refused m.answer ≡ false) made
      → ComeFitting Fits point.coming → IsReady old.queues → (point.state ≡ idle → HasNone old.queues) → end.state ≡ idle → HasNone new.queues
  idle_empty [] [] point end old new f r accepted have ready was is = rw r (was (sym (ap (λ (x : LinkPoint). x.state) f) ∙ is))
  idle_empty [] (m ∷ made) point end old new f r accepted have ready was is = absurd f
  idle_empty (step ∷ steps) [] point end old new f r accepted have ready was is = absurd f
  idle_empty (step ∷ steps) (m ∷ made) point end old new f r accepted have ready was is =
      let fits = brings Fits link arrivals point.state point.coming step m.events f.0 f.1 have in
      let ready' = stays_ready old r.0 step m.answer m.events r.1 fits.0 ready in
      idle_empty steps made f.0 end r.0 new f.2 r.2 accepted.1 fits.1 ready' (becomes ready') is
    where
      becomes : IsReady r.0.queues → f.0.state ≡ idle → HasNone r.0.queues
      becomes ready' idles =
          let by = idle_by link arrivals point.state point.coming step m.events f.0 f.1 idles in
          step_empty old r.0 by.moment m.answer m.events (subst (λ (x : Step). Steps d old x m.answer m.events r.0) by.dequeues r.1) accepted.0 by.nothing ready'

  -- a link begins idle, before the first packet
  pub idle_run_empty : (steps : List Step) (made : List Made) (point : LinkPoint) (at : State Q) → IsLinkRunTo d link arrivals steps made point at → ComeFitting Fits arrivals → IsReady d.opening → HasNone d.opening → point.state ≡ idle
      → HasNone at.queues
  idle_run_empty steps made point at run have ready none is =
      idle_empty steps made (start_of arrivals) point (opening_state d.opening) at run.follows run.runs (recursion_from_All (λ (m : Made). is_refused m.answer ≡ false) made run.none_refused) have ready (λ _. none) is

-- no packet waits in FQ-CoDel's queues
abbrev pub AreEmpty : FairQueues → Type 0
AreEmpty s = (flow : ℕ) → queue_of s flow ≡ []

no_head : (xs ys : List ℕ) → head_of_lists xs ys ≡ None → xs ++ ys ≡ []
no_head [] [] e = refl
no_head [] (y ∷ ys) e = absurd cc
no_head (x ∷ xs) ys e = absurd cc

none_has : (xs : List ℕ) (x : ℕ) → xs ≡ [] → Has xs x → ⊥
none_has xs x none has = subst (λ (l : List ℕ). Has l x) none has

module _ (p : Policy) where
  -- a chain that serves nothing ends with no flow in the lists
  chain_ends : (now : ℕ) (turns : List TurnMade) (old new : FairQueues) → Chain p now old turns new → service_in turns ≡ None → head_of new ≡ None
  chain_ends now [] old new c none = rw c.1 c.0
  chain_ends now (made ∷ more) old new (inl s) none = let e : Some s.0 ≡ None = rw s.1 at none in absurd cc
  chain_ends now (made ∷ more) old new (inr s) none = chain_ends now more s.0 new s.3 (rw s.1 at none)

  -- and then nothing waits
  unlisted_empty : (s : FairQueues) → AreServable p s → head_of s ≡ None → AreEmpty s
  unlisted_empty s ready none flow = go (queue_of s flow) (ready.each_listed flow)
    where
      go : (q : List Waiting) → (0 < length q → Has (s.lists.new_flows ++ s.lists.old_flows) flow) → q ≡ []
      go [] has = refl
      go (w ∷ q) has = absurd (none_has (s.lists.new_flows ++ s.lists.old_flows) flow (no_head s.lists.new_flows s.lists.old_flows none) (has (omega arith)))

no_service : (o : Option Service) → None ≡ given_in o → o ≡ None
no_service None e = refl
no_service (Some s) e = absurd cc

module _ (p : ParamFields) (seed : Seed) where
  abbrev Servable : FairQueues → Type 0
  Servable s = AreServable (fq_codel_policy p) s

  step_servable : (old new : State FairQueues) (step : Step) (said : Answer) (events : List Event) → Steps (fq_codel p seed) old step said events new → BringsFitting (λ packet. 1 ≤ packet.len) step → Servable old.queues → Servable new.queues
  step_servable old new step said events s fits h =
      steps_keep (fq_codel p seed) Servable (λ packet. 1 ≤ packet.len)
      (λ s w lost s' a has h. arrival_servable (fq_codel_policy p) (policy_drops p) s (flow_number p.classify p.flows seed w.packet.tuple) w lost s' a has h)
      (λ s dropped given s' moment n h. chain_servable (fq_codel_policy p) moment n.turns s s' n.chain h) old new step said events s fits h

  gives_when_empty : (old new : FairQueues) (moment : ℕ) (dropped : List Waiting) → (fq_codel p seed).serves old moment dropped None new → Servable new → AreEmpty new
  gives_when_empty old new moment dropped s ready = unlisted_empty (fq_codel_policy p) new ready (chain_ends (fq_codel_policy p) moment s.turns old new s.chain (no_service (service_in s.turns) s.given_by))

  -- so FQ-CoDel's are empty where the link is idle
  pub fair_idle_empty : (link : LinkFields) (arrivals : List Arrival) (steps : List Step) (made : List Made) (point : LinkPoint) (at : State FairQueues) → IsLinkRunTo (fq_codel p seed) link arrivals steps made point at
      → ComeFitting (λ packet. 1 ≤ packet.len) arrivals → AreEmpty (no_queues p.flows) → point.state ≡ idle → AreEmpty at.queues
  fair_idle_empty link arrivals steps made point at run have none is =
      idle_run_empty (fq_codel p seed) (λ packet. 1 ≤ packet.len) Servable AreEmpty step_servable gives_when_empty link arrivals steps made point at run have (opening_servable (fq_codel_policy p) p.flows) none is

-- queues without packets are those of a journal in which each packet has its fate
pub all_fated : (xs : List Acceptance) → ((flow : ℕ) → [] ≡ map waiting_of (filter (λ a. eqb a.flow flow) xs)) → xs ≡ []
all_fated [] none = refl
all_fated (a ∷ xs) none = let e = rw (eq-eqb a.flow a.flow refl) at (none a.flow) in absurd cc
