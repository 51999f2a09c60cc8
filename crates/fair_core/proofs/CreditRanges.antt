-- The credits of a flow stay in a range: a quantum at most, and below 0 by less than the longest packet so far.
use Rattle.std.proofs.Common.{◌≡◌, ℕ, zero, suc, ◌+◌, ◌*◌, ◌<◌, ◌≤◌, List, [], ◌∷◌, ◌++◌, drop, get_or, set, replicate, length, take, Some, None, slice_get, ℤ, pos, ◌+ℤ◌, ◌-ℤ◌, ◌<ℤ◌, ◌≤ℤ◌, refl, sym, ap, subst, inl, inr, arith}
use Rattle.std.specs.List.{AllByRecursion}
use Rattle.std.proofs.lemmas.Bool.{cases_Bool, cases_lt}
use Rattle.std.proofs.lemmas.Int.{ints}
use Rattle.std.proofs.lemmas.List.{take-append-drop}
use Rattle.std.proofs.lemmas.List.Sums.{sum_by-le}
use Rattle.packet_core.specs.declared.packet.FiveTuple.{FiveTuple}
use Rattle.packet_core.specs.declared.packet.Waiting.{Waiting}
use Rattle.flow_core.specs.FlowLists.{queue_at}
use Rattle.fair_core.specs.declared.flow_state.FlowState.{FlowState}
use Rattle.journal_core.specs.declared.step.Step.{Step}
use Rattle.fair_core.specs.FairQueueing.{Arrives, fair_queueing, is_listed, with_flow_listed}
use Rattle.fair_core.specs.FairQueues.{FairQueues, flow_state_at, new_flow_state, no_queues, queue_of}
use Rattle.fair_core.specs.Policies.{DropsFromHeads}
use Rattle.journal_core.specs.Runs.{Made, Runs, journal_of}
use Rattle.journal_core.specs.State.{State}
use Rattle.fair_core.specs.TurnBound.{quanta_owed, turns_at_most}
use Rattle.fair_core.specs.Turns.{Chain, Does, Policy, Turn, TurnKind, TurnMade, service_by}
use Rattle.fair_core.specs.Turns.TurnKind.{used_up, emptied, serving}
use Rattle.journal_core.specs.declared.event.Event.{Event}
use Rattle.journal_core.specs.declared.outcome.Answer.{Answer}
use Rattle.journal_core.specs.Steps.{Makes}
use Rattle.fair_core.proofs.RunInvariants.{AcceptsFitting, makes_accepting, runs_keep}
use Rattle.fair_core.proofs.TurnLemmas.{chain_keeps, queues_stay}
use Rattle.journal_core.proofs.ListLemmas.{ByRecursion-append, ByRecursion-parts, ByRecursion-weaker}
use Rattle.fair_core.proofs.TurnBoundLemmas.{quanta_owed_is}
use Rattle.fair_core.specs.Credits.{AreCreditsKept}

-- what holds of each element holds of each where one is set
pub set_keeps : {X : Type 0} (P : X → Type 0) (d : X) (xs : List X) (i : ℕ) (v : X) → P v → ((j : ℕ) → P (get_or xs j d)) → (j : ℕ) → P (get_or (set xs i v) j d)
set_keeps P d [] i v here all j = all j
set_keeps P d (x ∷ xs) zero v here all zero = here
set_keeps P d (x ∷ xs) zero v here all (suc j) = all (suc j)
set_keeps P d (x ∷ xs) (suc i) v here all zero = all zero
set_keeps P d (x ∷ xs) (suc i) v here all (suc j) = set_keeps P d xs i v here (λ k. all (suc k)) j

pub replicate_keeps : {X : Type 0} (P : X → Type 0) (d : X) (n : ℕ) → P d → (j : ℕ) → P (get_or (replicate n d) j d)
replicate_keeps P d zero here j = here
replicate_keeps P d (suc n) here zero = here
replicate_keeps P d (suc n) here (suc j) = replicate_keeps P d n here j

-- what holds of each element holds of the one that is found
pub at_place : {X : Type 0} (P : X → Type 0) (k : ℕ) (xs : List X) (x : X) → AllByRecursion P xs → slice_get xs k ≡ Some x → P x
at_place P k [] x h found = absurd cc
at_place P zero (y ∷ xs) x h found = let e : y ≡ x = cc in subst P e h.0
at_place P (suc k) (y ∷ xs) x h found = at_place P k xs x h.1 found

module _ (quantum longest : ℕ) where
  abbrev IsShort : Waiting → Type 0
  IsShort w = w.packet.len ≤ longest

  short_behind : (n : ℕ) (q : List Waiting) → AllByRecursion IsShort q → AllByRecursion IsShort (drop n q)
  short_behind n q h = (ByRecursion-parts IsShort (take n q) (drop n q) (rw (take-append-drop n q) h)).1

  pub opening_credits : (flows : ℕ) → 0 < longest → AreCreditsKept quantum longest (no_queues flows)
  opening_credits flows some = record {
    low = replicate_keeps (λ (a : FlowState). pos 0 <ℤ (a.credits +ℤ pos longest)) new_flow_state flows (omega (arith, ints));
    high = replicate_keeps (λ (a : FlowState). a.credits ≤ℤ pos quantum) new_flow_state flows (omega (arith, ints));
    short = replicate_keeps (AllByRecursion IsShort) [] flows tt;
  }

-- at most one quantum is owed where no packet was longer than a quantum
one_owed : (quantum : ℕ) (credits : ℤ) → 0 < quantum → pos 0 <ℤ (credits +ℤ pos quantum) → quanta_owed quantum credits ≤ 1
one_owed quantum credits some short =
    let owed = quanta_owed_is quantum credits some in
    elim (cases_lt 1 (quanta_owed quantum credits)) [
      | inl more ↦ let least = owed.least 1 more in absurd (omega (arith, ints))
      | inr few ↦ few
    ]

pub short_bound : (quantum longest : ℕ) (s : FairQueues) → 0 < quantum → longest ≤ quantum → AreCreditsKept quantum longest s → turns_at_most quantum s ≤ 3 * length s.lists.new_flows + 2 * length s.lists.old_flows
short_bound quantum longest s some short kept =
    let one = λ (flow : ℕ). let low = kept.low flow in one_owed quantum ((flow_state_at s flow).credits) some (omega (arith, ints)) in
    let new = sum_by-le (λ flow. quanta_owed quantum ((flow_state_at s flow).credits) + 2) 3 s.lists.new_flows (λ i d below. let o = one (get_or s.lists.new_flows i d) in omega arith) in
    let old = sum_by-le (λ flow. quanta_owed quantum ((flow_state_at s flow).credits) + 1) 2 s.lists.old_flows (λ i d below. let o = one (get_or s.lists.old_flows i d) in omega arith) in
    omega arith

-- a longer packet may have come
pub credits_weaker : (quantum less more : ℕ) (s : FairQueues) → less ≤ more → AreCreditsKept quantum less s → AreCreditsKept quantum more s
credits_weaker quantum less more s le kept = record {
  low = λ flow. let low = kept.low flow in omega (arith, ints);
  high = kept.high;
  short = λ flow. ByRecursion-weaker (IsShort quantum less) (IsShort quantum more) (queue_of s flow) (λ w fits. omega arith) (kept.short flow);
}

-- The flows stay so.
module _ (p : Policy) (drops : DropsFromHeads p) (longest : ℕ) where
  abbrev Kept : FairQueues → Type 0
  Kept s = AreCreditsKept p.quantum longest s

  abbrev IsFew : FlowState → Type 0
  IsFew a = (pos 0 <ℤ (a.credits +ℤ pos longest)) × (a.credits ≤ℤ pos p.quantum)

  few : (s : FairQueues) → Kept s → (flow : ℕ) → IsFew (flow_state_at s flow)
  few s kept flow = (kept.low flow, kept.high flow)

  turn_credits : (now : ℕ) (old new : FairQueues) (made : TurnMade) → Turn p now old made new → Kept old → Kept new
  turn_credits now old new made t kept = go made.kind t.does (queues_stay p now old new made t)
    where
      passed : (flow_state : FlowState) → IsFew flow_state → new.flow_states ≡ set old.flow_states made.head.flow flow_state → ((flow : ℕ) → AllByRecursion (IsShort p.quantum longest) (queue_of new flow)) → Kept new
      passed flow_state is_few flow_states short =
          let all = set_keeps IsFew new_flow_state old.flow_states made.head.flow flow_state is_few (few old kept) in
          record { low = λ flow. rw flow_states (all flow).0; high = λ flow. rw flow_states (all flow).1; short = short }

      go : (kind : TurnKind) → Does p now old made.head kind new → (service_by kind ≡ None → new.lists.queues ≡ old.lists.queues) → Kept new
      go used_up d stay =
          let low = kept.low made.head.flow in
          let none = d.credits in
          passed (record (flow_state_at old made.head.flow) { credits = (flow_state_at old made.head.flow).credits +ℤ pos p.quantum }) (omega (arith, ints), omega (arith, ints)) (ap (λ (s : FairQueues). s.flow_states) d.leaves) (λ flow. rw (stay refl) (kept.short flow))
      go emptied d stay = passed (record (flow_state_at old made.head.flow) { codel = d.codel }) (few old kept made.head.flow) (ap (λ (s : FairQueues). s.flow_states) d.leaves) (λ flow. rw (stay refl) (kept.short flow))
      go (serving service) d stay =
          let fits = at_place (IsShort p.quantum longest) d.drops (queue_of old made.head.flow) service.given.waiting (kept.short made.head.flow) d.stands in
          let some = d.credits in
          let high = kept.high made.head.flow in
          passed (record { credits = (flow_state_at old made.head.flow).credits -ℤ pos service.given.waiting.packet.len; codel = d.codel }) (omega (arith, ints), omega (arith, ints)) (ap (λ (s : FairQueues). s.flow_states) d.leaves)
          (λ flow. rw d.leaves (set_keeps (AllByRecursion (IsShort p.quantum longest)) [] old.lists.queues made.head.flow _ (short_behind p.quantum longest (d.drops + 1) (queue_of old made.head.flow) (kept.short made.head.flow)) kept.short flow))

  pub chain_credits : (now : ℕ) (turns : List TurnMade) (old new : FairQueues) → Chain p now old turns new → Kept old → Kept new
  chain_credits now turns old new c kept = chain_keeps p now Kept (turn_credits now) turns old new c kept

  listed_credits : (old : FairQueues) (flow : ℕ) → Kept old → (other : ℕ) → IsFew (flow_state_at (with_flow_listed p old flow) other)
  listed_credits old flow kept other =
      elim (cases_Bool (is_listed old flow)) [
        | inl t ↦ rw t (few old kept other)
        | inr t ↦ rw t (set_keeps IsFew new_flow_state old.flow_states flow _ (let low = kept.low flow in let high = kept.high flow in (omega (arith, ints), omega (arith, ints))) (few old kept) other)
      ]

  pub arrival_credits : (old : FairQueues) (flow : ℕ) (w : Waiting) (lost : List Waiting) (new : FairQueues) → Arrives p old flow w lost new → IsShort p.quantum longest w → Kept old → Kept new
  arrival_credits old flow w lost new a fits kept =
      let same : new.flow_states ≡ (with_flow_listed p old flow).flow_states = ap (λ (s : FairQueues). s.flow_states) a.rest in
      let queues = set old.lists.queues flow (queue_at old.lists flow ++ w ∷ []) in
      let leave = drops.heads queues a.batches new.lists.queues a.overflow in
      let with_w = set_keeps (AllByRecursion (IsShort p.quantum longest)) [] old.lists.queues flow (queue_at old.lists flow ++ w ∷ []) (ByRecursion-append (IsShort p.quantum longest) (queue_at old.lists flow) (w ∷ []) (kept.short flow) (fits, tt)) kept.short in
      let each = λ (other : ℕ). subst (λ (flow_states : List FlowState). IsFew (get_or flow_states other new_flow_state)) (sym same) (listed_credits old flow kept other) in
      record {
        low = λ other. (each other).0;
        high = λ other. (each other).1;
        short = λ other. (ByRecursion-parts (IsShort p.quantum longest) _ (get_or new.lists.queues other []) (subst (AllByRecursion (IsShort p.quantum longest)) (leave other) (with_w other))).1;
      }

  pub makes_credits : (flows : ℕ) (flow_of : FiveTuple → ℕ) (old new : State FairQueues) (step : Step) (said : Answer) (made : List Event) → Makes (fair_queueing p flows flow_of) old step said made new
      → AcceptsFitting (λ packet. packet.len ≤ longest) made → Kept old.queues → Kept new.queues
  makes_credits flows flow_of old new step said made m accepts kept =
      makes_accepting (fair_queueing p flows flow_of) Kept (λ packet. packet.len ≤ longest)
      (λ s w lost s' a fits kept'. arrival_credits s (flow_of w.packet.tuple) w lost s' a fits kept')
      (λ s dropped given s' moment n kept'. chain_credits moment n.turns s s' n.chain kept')
      old new step said made accepts m kept

  pub runs_credits : (flows : ℕ) (flow_of : FiveTuple → ℕ) (old new : State FairQueues) (steps : List Step) (made : List Made) → Runs (fair_queueing p flows flow_of) old steps made new
      → AcceptsFitting (λ packet. packet.len ≤ longest) (journal_of made) → Kept old.queues → Kept new.queues
  runs_credits flows flow_of old new steps made r accepts kept =
      runs_keep (fair_queueing p flows flow_of) Kept (λ packet. packet.len ≤ longest)
      (λ s w lost s' a fits kept'. arrival_credits s (flow_of w.packet.tuple) w lost s' a fits kept')
      (λ s dropped given s' moment n kept'. chain_credits moment n.turns s s' n.chain kept')
      old new steps made r accepts kept
