-- While a flow waits and no packet of it has a fate, each dequeue lowers its potential, so there are few.
use Rattle.std.proofs.Common.{◌≡◌, ◌≢◌, ℕ, zero, suc, ◌+◌, ◌-◌, ◌*◌, ◌/◌, ◌<◌, ◌≤◌, cond, eqb, List, [], ◌∷◌, ◌++◌, All, drop, filter, length, take, Option, Some, None, MatchOption, ℤ, pos, negsuc, ◌+ℤ◌, ◌<ℤ◌, refl, sym, ap, subst, ◌∙◌, arith, append_assoc}
use Rattle.std.proofs.lemmas.Int.{ints}
use Rattle.std.proofs.lemmas.List.{take-append-drop}
use Rattle.std.proofs.lemmas.List.Sums.{sum_by-cons}
use Rattle.std.proofs.lemmas.Grind.{flat_map-append}
use Rattle.std.proofs.lemmas.Nat.{le-div}
use Rattle.std.proofs.Math.Nat.{div-mul-le_self}
use Rattle.packet_core.specs.FlowNumber.{flow_number}
use Rattle.packet_core.specs.Packets.{PacketParts}
use Rattle.packet_core.specs.Params.{AreInRange}
use Rattle.packet_core.specs.declared.flow.Seed.{Seed}
use Rattle.packet_core.specs.declared.packet.FiveTuple.{FiveTuple}
use Rattle.packet_core.specs.declared.packet.Waiting.{Waiting}
use Rattle.packet_core.specs.declared.params.ParamFields.{ParamFields}
use Rattle.journal_core.specs.declared.event.Event.{Event}
use Rattle.journal_core.specs.declared.outcome.Answer.{Answer}
use Rattle.journal_core.specs.declared.outcome.Answer.TheVariants as answer
use Rattle.journal_core.specs.declared.step.Refusal.{Refusal}
use Rattle.journal_core.specs.declared.step.Step.{Step}
use Rattle.journal_core.specs.declared.step.Step.TheVariants.{Enqueue, Dequeue, Close}
use Rattle.fair_core.specs.FairQueueing.{fair_queueing, with_flow_listed}
use Rattle.fair_core.specs.FairQueues.{FairQueues, no_queues, queue_of}
use Rattle.fair_core.specs.FqCodel.{fq_codel, fq_codel_policy}
use Rattle.fair_core.specs.Policies.{DropsFromHeads}
use Rattle.fair_core.specs.TurnBound.{quanta_owed}
use Rattle.fair_core.specs.Turns.{Policy}
use Rattle.fair_core.proofs.FairFifo.{fair_is_fifo}
use Rattle.fair_core.proofs.FqCodelPolicy.{policy_drops}
use Rattle.fair_core.proofs.RunInvariants.{BringsFitting, steps_keep}
use Rattle.fair_core.proofs.SoundFlows.{AreSoundFlows, arrival_sound, chain_sound, opening_sound}
use Rattle.journal_core.specs.Runs.{HasLengthInRange}
use Rattle.journal_core.proofs.HistoryRuns.{Keeps, keeps_opening, keeps_runs, keeps_steps}
use Rattle.journal_core.proofs.ListLemmas.{ByRecursion-parts}
use Rattle.journal_core.proofs.Words.{AllByRecursion, Acceptance, Admits, Discipline, Given, Made, Makes, Runs, Serves, State, Steps, acceptance_of, acceptances, count_by, dequeue_answer, fate_ids, fate_of, filter-append, filter_map-append, journal_of, opening_state, passes, recursion_from_All, refusal_of}
use Rattle.fair_core.proofs.ChainShares.{credits_of}
use Rattle.sched_core.specs.Shares.{longest}
use Rattle.fair_core.proofs.CreditRanges.{opening_credits, runs_credits}
use Rattle.sched_core.proofs.LongestPackets.{longest_most, some_longest}
use Rattle.sched_core.proofs.RunShares.{runs_split}
use Rattle.sched_core.specs.Starvation.{WaitsAt, dequeues_between, fates_between, fates_from}
use Rattle.sched_core.specs.LastSteps.{is_dequeued}
use Rattle.sched_core.proofs.QueueLengths.{history_longer}
use Rattle.fair_core.proofs.ServableFlows.{AreServable, arrival_servable, chain_servable, opening_servable}
use Rattle.fair_core.proofs.PacketsAheadInTurns.{Fit, WaitsIn, arrival_waits, chain_waits, left_in, left_most, listed_few, round_of}
use Rattle.fair_core.proofs.PacketsAhead.{listed_waits}

bytes_fit : (step : Step) → HasLengthInRange step → BringsFitting (λ packet. 1 ≤ packet.len) step
bytes_fit (Enqueue moment lane packet) range = range.0
bytes_fit (Dequeue moment) range = tt
bytes_fit (Close moment) range = tt

no_parts : {X : Type 0} (xs ys : List X) → xs ++ ys ≡ [] → (xs ≡ []) × (ys ≡ [])
no_parts [] ys e = (refl, e)
no_parts (x ∷ xs) ys e = absurd cc

fates_append : (accepted : List Acceptance) (flow : ℕ) (xs ys : List Event) → fates_from accepted flow (xs ++ ys) ≡ fates_from accepted flow xs ++ fates_from accepted flow ys
fates_append accepted flow xs ys =
    ap (filter (passes (λ a. eqb a.flow flow) accepted)) (filter_map-append fate_of xs ys)
    ∙ filter-append (passes (λ a. eqb a.flow flow) accepted) (fate_ids xs) (fate_ids ys)

-- what an answer counts
abbrev tells : Answer → ℕ
tells said = cond (is_dequeued said) 1 0

tells_dequeue : (given : Option Given) → tells (dequeue_answer given) ≡ 1
tells_dequeue None = refl
tells_dequeue (Some g) = refl

module _ (p : Policy) (some_quantum : 0 < p.quantum) (drops : DropsFromHeads p) (flows : ℕ) (flow_of : FiveTuple → ℕ) (f : ℕ) where
  abbrev d : Discipline FairQueues
  d = fair_queueing p flows flow_of

  abbrev Kept : State FairQueues → List Event → Type 0
  Kept s events = Keeps d queue_of (fair_is_fifo p drops flows flow_of) s events

  abbrev AreFine : FairQueues → Type 0
  AreFine s = AreSoundFlows flows s × AreServable p s

  abbrev WaitsHere : FairQueues → ℕ → Type 0
  WaitsHere s n = WaitsIn p some_quantum flows f s n

  fit_of : (s : FairQueues) → AreFine s → Fit p some_quantum flows f s
  fit_of s fine = record { sound = fine.0.sound; as_many = fine.0.as_many; high = fine.1.high }

  steps_fine : (old new : State FairQueues) (step : Step) (said : Answer) (made : List Event) → Steps d old step said made new → HasLengthInRange step → AreFine old.queues → AreFine new.queues
  steps_fine old new step said made s range fine =
      steps_keep d AreFine (λ packet. 1 ≤ packet.len)
      (λ s w lost s' a fits h. (arrival_sound p drops flows s (flow_of w.packet.tuple) w lost s' a h.0, arrival_servable p drops s (flow_of w.packet.tuple) w lost s' a fits h.1))
      (λ s dropped given s' moment n h. (chain_sound p some_quantum flows moment n.turns s s' n.chain h.0, chain_servable p moment n.turns s s' n.chain h.1))
      old new step said made s (bytes_fit step range) fine

  pub runs_fine : (old new : State FairQueues) (steps : List Step) (made : List Made) → Runs d old steps made new → AllByRecursion HasLengthInRange steps → AreFine old.queues → AreFine new.queues
  runs_fine old new [] [] r ranges fine = rw r fine
  runs_fine old new [] (m ∷ made) r ranges fine = absurd r
  runs_fine old new (step ∷ steps) [] r ranges fine = absurd r
  runs_fine old new (step ∷ steps) (m ∷ made) r ranges fine = runs_fine r.0 new steps made r.2 ranges.1 (steps_fine old r.0 step m.answer m.events r.1 ranges.0 fine)

  -- A STEP

  abbrev Left : Answer → FairQueues → ℕ → Type 0
  Left said s n = (m : ℕ) × (tells said + m ≤ n) × WaitsHere s m

  admits_waits : (old new : State FairQueues) (moment lane : ℕ) (packet : PacketParts) (made : List Event) (n : ℕ) → Admits d old moment lane packet made new → AreFine old.queues → AreFine new.queues → WaitsHere old.queues n → WaitsHere new.queues n
  admits_waits old new moment lane packet made n m fine fine' w =
      let a = m.queues in
      let flow = flow_of packet.tuple in
      let few' = listed_few p some_quantum flows f new.queues fine'.0.sound fine'.0.as_many in
      let news : new.queues.lists.new_flows ≡ (with_flow_listed p old.queues flow).lists.new_flows = ap (λ (s : FairQueues). s.lists.new_flows) a.rest in
      let olds : new.queues.lists.old_flows ≡ (with_flow_listed p old.queues flow).lists.old_flows = ap (λ (s : FairQueues). s.lists.old_flows) a.rest in
      let few : length (with_flow_listed p old.queues flow).lists.new_flows + length (with_flow_listed p old.queues flow).lists.old_flows ≤ flows = rw (← news, ← olds) few' in
      let left = arrival_waits p some_quantum flows f old.queues flow n few (rw fine.0.sound.flow_states a.within) w in
      subst (λ (s : FairQueues). WaitsHere s n) (sym a.rest) left

  serves_waits : (old new : State FairQueues) (moment : ℕ) (given : Option Given) (made : List Event) (n : ℕ) → Serves d old moment given made new → AreFine old.queues → 0 < length (queue_of old.queues f) → length (queue_of old.queues f) ≤ length (queue_of new.queues f) → WaitsHere old.queues n
      → (m : ℕ) × (m + 1 ≤ n) × WaitsHere new.queues m
  serves_waits old new moment given made n m fine some longer w =
      chain_waits p some_quantum flows f moment m.queues.turns old.queues new.queues n m.queues.chain (fit_of old.queues fine) fine.1.bytes some longer w

  makes_waits : (old new : State FairQueues) (step : Step) (said : Answer) (made : List Event) (n : ℕ) → Makes d old step said made new → AreFine old.queues → AreFine new.queues
      → 0 < length (queue_of old.queues f) → length (queue_of old.queues f) ≤ length (queue_of new.queues f) → WaitsHere old.queues n → Left said new.queues n
  makes_waits old new (Enqueue moment lane packet) said made n m fine fine' some longer w = (n, rw m.0 (omega arith), admits_waits old new moment lane packet made n m.1 fine fine' w)
  makes_waits old new (Dequeue moment) said made n m fine fine' some longer w =
      let left = serves_waits old new moment m.0 made n m.2 fine some longer w in
      let less = left.1 in
      let one = tells_dequeue m.0 in
      (left.0, rw m.1 (omega arith), left.2)
  makes_waits old new (Close moment) said made n m fine fine' some longer w = (n, rw m.0 (omega arith), subst (λ (s : FairQueues). WaitsHere s n) (sym (ap (λ (s : State FairQueues). s.queues) m.1.state)) w)

  steps_wait : (old new : State FairQueues) (step : Step) (said : Answer) (made : List Event) (n : ℕ) → Steps d old step said made new → AreFine old.queues → AreFine new.queues
      → 0 < length (queue_of old.queues f) → length (queue_of old.queues f) ≤ length (queue_of new.queues f) → WaitsHere old.queues n → Left said new.queues n
  steps_wait old new step said made n s fine fine' some longer w = go (refusal_of old step) s
    where
      go : (o : Option Refusal) → MatchOption o (Makes d old step said made new) (λ r. (said ≡ answer.Refused r) × (made ≡ []) × (new ≡ old)) → Left said new.queues n
      go None m = makes_waits old new step said made n m fine fine' some longer w
      go (Some r) m = (n, rw m.0 (omega arith), subst (λ (s : State FairQueues). WaitsHere s.queues n) (sym m.2) w)

  -- A RUN

  pub runs_wait : (accepted more : List Acceptance) (old new : State FairQueues) (steps : List Step) (made : List Made) (events : List Event) (n : ℕ) → Runs d old steps made new → Kept old events
      → accepted ≡ acceptances (events ++ journal_of made) ++ more → fates_from accepted f (journal_of made) ≡ [] → AllByRecursion HasLengthInRange steps → AreFine old.queues
      → 0 < length (queue_of old.queues f) → WaitsHere old.queues n → count_by (λ (m : Made). is_dequeued m.answer) made ≤ n
  runs_wait accepted more old new [] [] events n r kept is none ranges fine some w = omega arith
  runs_wait accepted more old new [] (m ∷ made) events n r kept is none ranges fine some w = absurd r
  runs_wait accepted more old new (step ∷ steps) [] events n r kept is none ranges fine some w = absurd r
  runs_wait accepted more old new (step ∷ steps) (m ∷ made) events n r kept is none ranges fine some w =
      let mid = r.0 in
      let rest = journal_of made in
      let more' = acceptances rest ++ more in
      let is_rest : accepted ≡ acceptances ((events ++ m.events) ++ rest) ++ more = is ∙ ap (λ es. acceptances es ++ more) (sym (append_assoc events m.events rest)) in
      let is_first : accepted ≡ acceptances (events ++ m.events) ++ more' = is_rest ∙ ap (λ l. l ++ more) (filter_map-append acceptance_of (events ++ m.events) rest) ∙ append_assoc (acceptances (events ++ m.events)) (acceptances rest) more in
      let parts = no_parts (fates_from accepted f m.events) (fates_from accepted f rest) (sym (fates_append accepted f m.events rest) ∙ none) in
      let kept' = keeps_steps d queue_of (fair_is_fifo p drops flows flow_of) old mid step m.answer m.events events r.1 kept in
      let fine' = steps_fine old mid step m.answer m.events r.1 ranges.0 fine in
      let longer = history_longer flow_of (queue_of old.queues) (queue_of mid.queues) events m.events old.next_id mid.next_id old.last mid.last old.closed mid.closed accepted more' f kept kept' is_first parts.0 in
      let left = steps_wait old mid step m.answer m.events n r.1 fine fine' some longer w in
      let behind = runs_wait accepted more mid new steps made (events ++ m.events) left.0 r.2 kept' is_rest parts.1 ranges.1 fine' (omega arith) left.2 in
      let less = left.1 in
      let first = sum_by-cons (λ (m : Made). cond (is_dequeued m.answer) 1 0) m made in
      omega arith

-- THE LAW

-- credits above the negative of the longest packet are brought above 0 by so many quanta
owed_most : (quantum most : ℕ) (credits : ℤ) → 0 < quantum → pos 0 <ℤ (credits +ℤ pos most) → quanta_owed quantum credits ≤ (most - 1) / quantum + 1
owed_most quantum most (pos zero) some low = omega arith
owed_most quantum most (pos (suc n)) some low = omega arith
owed_most quantum most (negsuc n) some low =
    let near : suc n ≤ most - 1 = omega (arith, ints) in
    let less = div-mul-le_self (suc n) quantum in
    let le = le-div (suc n / quantum) (most - 1) quantum some (omega arith) in
    omega arith

-- a queue that isn't empty has a packet
some_packet : (q : List Waiting) → q ≢ [] → 0 < length q
some_packet [] some = absurd (some refl)
some_packet (w ∷ q) some = omega arith

all_parts : {X : Type 0} (P : X → Type 0) (n : ℕ) (xs : List X) → AllByRecursion P xs → AllByRecursion P (take n xs) × AllByRecursion P (drop n xs)
all_parts P n xs h = ByRecursion-parts P (take n xs) (drop n xs) (rw (take-append-drop n xs) h)

product_most : (a b k : ℕ) → a ≤ b → a * k ≤ b * k
product_most a b k le = grind arith

module _ (p : ParamFields) (seed : Seed) (range : AreInRange p) where
  abbrev policy : Policy
  policy = fq_codel_policy p

  abbrev flow_by : FiveTuple → ℕ
  flow_by = flow_number p.classify p.flows seed

  abbrev start : State FairQueues
  start = opening_state (no_queues p.flows)

  pub no_flow_starves : (steps : List Step) (made : List Made) (new : State FairQueues) → All HasLengthInRange steps → Runs (fq_codel p seed) start steps made new
      → (a b : ℕ) → (f : ℕ) → WaitsAt (fq_codel p seed) steps a f → fates_between made a b f ≡ []
      → dequeues_between made a b ≤ 2 * p.quantum * (p.flows - 1) * ((longest (acceptances (journal_of (take a made))) - 1) / p.quantum + 2)
  no_flow_starves steps made new ranges r a b f waits none =
      let first = runs_split (fq_codel p seed) a start new steps made r in
      let second = runs_split (fq_codel p seed) (b - a) first.0 new (drop a steps) (drop a made) first.2 in
      let sa = first.0 in
      let between = take (b - a) (drop a made) in
      let rest = drop (b - a) (drop a made) in
      let fifo = fair_is_fifo policy (policy_drops p) p.flows flow_by in
      let kept = keeps_runs (fq_codel p seed) queue_of fifo start sa (take a steps) (take a made) [] first.1 (keeps_opening (fq_codel p seed) queue_of fifo) in
      let all = all_parts HasLengthInRange a steps (recursion_from_All HasLengthInRange steps ranges) in
      let fine = runs_fine policy some_quantum (policy_drops p) p.flows flow_by f start sa (take a steps) (take a made) first.1 all.0 (opening_sound p.flows, opening_servable policy p.flows) in
      let whole : journal_of made ≡ (journal_of (take a made) ++ journal_of between) ++ journal_of rest =
      ap journal_of (sym (take-append-drop a made) ∙ ap (λ l. take a made ++ l) (sym (take-append-drop (b - a) (drop a made))) ∙ sym (append_assoc (take a made) between rest))
      ∙ journal_is (take a made ++ between) rest ∙ ap (λ es. es ++ journal_of rest) (journal_is (take a made) between) in
      let accepted : acceptances (journal_of made) ≡ acceptances (journal_of (take a made) ++ journal_of between) ++ acceptances (journal_of rest) =
      ap acceptances whole ∙ filter_map-append acceptance_of (journal_of (take a made) ++ journal_of between) (journal_of rest) in
      let some = some_packet (queue_of sa.queues f) (waits (take a made) sa first.1) in
      let few = listed_few policy some_quantum p.flows f sa.queues fine.0.sound fine.0.as_many in
      let waiting = listed_waits p.flows p.quantum (round_of policy some_quantum p.flows f) f refl (left_in policy some_quantum p.flows f sa.queues) (λ x. left_most p.quantum (credits_of sa.queues x) (fine.1.high x))
      (quanta_owed p.quantum (credits_of sa.queues f)) sa.queues.lists.new_flows sa.queues.lists.old_flows (fine.1.each_listed f some) few in
      let count = runs_wait policy some_quantum (policy_drops p) p.flows flow_by f (acceptances (journal_of made)) (acceptances (journal_of rest)) sa second.0 (take (b - a) (drop a steps)) between (journal_of (take a made)) _ second.1 kept accepted none (all_parts HasLengthInRange (b - a) (drop a steps) all.1).0 fine some waiting in
      let most = longest (acceptances (journal_of (take a made))) in
      let credits = runs_credits policy (policy_drops p) most p.flows flow_by start sa (take a steps) (take a made) first.1 (longest_most (acceptances (journal_of (take a made)))) (opening_credits p.quantum most p.flows (some_longest (acceptances (journal_of (take a made))))) in
      let owed = owed_most p.quantum most (credits_of sa.queues f) some_quantum (credits.low f) in
      bound (quanta_owed p.quantum (credits_of sa.queues f)) ((most - 1) / p.quantum) (2 * p.quantum * (p.flows - 1)) (dequeues_between made a b) owed count
    where
      some_quantum : 0 < p.quantum
      some_quantum = range.quantum.0

      journal_is : (xs ys : List Made) → journal_of (xs ++ ys) ≡ journal_of xs ++ journal_of ys
      journal_is xs ys = flat_map-append (λ (m : Made). m.events) xs ys

      bound : (owed k round n : ℕ) → owed ≤ k + 1 → n ≤ owed * round + round → n ≤ round * (k + 2)
      bound owed k round n le most =
          let product = product_most owed (k + 1) round le in
          let e : round * (k + 2) ≡ (k + 1) * round + round = omega arith in
          omega arith
