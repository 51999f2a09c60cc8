-- What a run sends of two flows that stay in the list of old flows, step by step and between two points.
use Rattle.std.proofs.Common.{◌≡◌, ◌≢◌, ℕ, zero, suc, ◌+◌, ◌-◌, ◌*◌, ◌<◌, ◌≤◌, Bool, cond, eqb, List, [], ◌∷◌, ◌++◌, drop, filter, length, map, take, Option, Some, None, MatchOption, pos, refl, sym, ap, subst, ◌∙◌, inl, inr, arith, append_assoc, append-nil}
use Rattle.std.proofs.lemmas.Int.{ints}
use Rattle.std.proofs.lemmas.List.{take-append-drop}
use Rattle.std.proofs.lemmas.Grind.{flat_map-append}
use Rattle.std.proofs.Math.Seq.{take-add}
use Rattle.packet_core.specs.FlowNumber.{flow_number}
use Rattle.packet_core.specs.declared.flow.Seed.{Seed}
use Rattle.packet_core.specs.declared.params.ParamFields.{ParamFields}
use Rattle.journal_core.specs.declared.event.Cause.{Cause}
use Rattle.journal_core.specs.declared.event.Cause.TheVariants as cause
use Rattle.packet_core.specs.declared.packet.FiveTuple.{FiveTuple}
use Rattle.packet_core.specs.declared.packet.Waiting.{Waiting}
use Rattle.journal_core.specs.declared.event.Event.{Event}
use Rattle.journal_core.specs.declared.step.Step.{Step}
use Rattle.journal_core.specs.declared.step.Step.TheVariants.{Enqueue, Dequeue, Close}
use Rattle.journal_core.specs.declared.outcome.Answer.{Answer}
use Rattle.journal_core.specs.declared.step.Refusal.{Refusal}
use Rattle.journal_core.specs.declared.outcome.Answer.TheVariants as answer
use Rattle.packet_core.specs.Packets.{PacketParts}
use Rattle.fair_core.specs.declared.flow_state.FlowState.{FlowState}
use Rattle.fair_core.specs.FairQueueing.{fair_queueing, is_listed, with_flow_listed}
use Rattle.fair_core.specs.FairQueues.{AreSound, FairQueues, flow_state_at, new_flow_state, no_queues, queue_of}
use Rattle.fair_core.specs.FqCodel.{fq_codel, fq_codel_policy}
use Rattle.fair_core.specs.Policies.{DropsFromHeads}
use Rattle.fair_core.specs.Turns.{Policy}
use Rattle.fair_core.proofs.FairFifo.{fair_is_fifo}
use Rattle.fair_core.proofs.FqCodelPolicy.{policy_drops}
use Rattle.fair_core.proofs.ListedFlowLemmas.{apart_from_any}
use Rattle.fair_core.proofs.RunInvariants.{AcceptsFitting}
use Rattle.fair_core.proofs.SoundFlows.{AreSoundFlows, opening_sound, runs_sound}
use Rattle.journal_core.proofs.FlowShares.{IsOwn, parts_own}
use Rattle.journal_core.proofs.HistoryRuns.{Keeps, keeps_opening, keeps_runs, keeps_steps}
use Rattle.journal_core.proofs.IdLemmas.{Rises-range}
use Rattle.journal_core.proofs.ListLemmas.{ByRecursion-map, ByRecursion-parts, ByRecursion-weaker}
use Rattle.journal_core.proofs.Words.{AllByRecursion, cases_Bool, cases_eq, eqb-true, filter-append, filter_map, filter_map-append, find-append, get_or-set_other, sum_by-append, Discipline, Given, Acceptance, acceptance_of, acceptances, named, passes, waiting_of, IsHistory, State, opening_state, refusal_of, Admits, Serves, Makes, Steps, drop_event, sent_events, bytes_named, length_named, sent_of, Made, Runs, journal_of}
use Rattle.journal_core.specs.Calls.{Standing}
use Rattle.journal_core.specs.Runs.{IsRunOf}
use Rattle.sched_core.specs.Shares.{SharesFairly, StaysOld, bytes_between, bytes_sent, longest}
use Rattle.fair_core.specs.Credits.{AreCreditsKept}
use Rattle.fair_core.proofs.ChainShares.{Balanced, Olds, chain_shares, credits_of, share_of}
use Rattle.fair_core.proofs.CreditRanges.{at_place, opening_credits, runs_credits}
use Rattle.sched_core.proofs.LongestPackets.{longest_most, some_longest}
use Rattle.fair_core.proofs.OldFlows.{Has, has_contained, has_differs, has_right, lead_most}

-- whether an acceptance is of the flow
abbrev into : ℕ → Acceptance → Bool
into flow a = eqb a.flow flow

-- THE BYTES OF A FLOW IN SOME EVENTS

bytes_append : (accepted : List Acceptance) (flow : ℕ) (xs ys : List Event) → bytes_sent accepted flow (xs ++ ys) ≡ bytes_sent accepted flow xs + bytes_sent accepted flow ys
bytes_append accepted flow xs ys =
    ap (λ ids. bytes_named accepted (filter (passes (into flow) accepted) ids)) (filter_map-append sent_of xs ys)
    ∙ ap (bytes_named accepted) (filter-append (passes (into flow) accepted) (filter_map sent_of xs) (filter_map sent_of ys))
    ∙ sum_by-append (length_named accepted) (filter (passes (into flow) accepted) (filter_map sent_of xs)) (filter (passes (into flow) accepted) (filter_map sent_of ys))

none_of_drops : (moment : ℕ) (why : Cause) (gone : List Waiting) (more : List Event) → filter_map sent_of (map (drop_event moment why) gone ++ more) ≡ filter_map sent_of more
none_of_drops moment why [] more = refl
none_of_drops moment why (w ∷ gone) more = none_of_drops moment why gone more

-- how many bytes a packet that is given is of that flow
abbrev bytes_given : List Acceptance → ℕ → Option Given → ℕ
bytes_given accepted flow None = 0
bytes_given accepted flow (Some g) = cond (passes (into flow) accepted g.waiting.id) (length_named accepted g.waiting.id) 0

bytes_served : (accepted : List Acceptance) (flow moment : ℕ) (why : Cause) (gone : List Waiting) (given : Option Given) → bytes_sent accepted flow (map (drop_event moment why) gone ++ sent_events moment given) ≡ bytes_given accepted flow given
bytes_served accepted flow moment why gone None = ap (λ ids. bytes_named accepted (filter (passes (into flow) accepted) ids)) (none_of_drops moment why gone [])
bytes_served accepted flow moment why gone (Some g) =
    ap (λ ids. bytes_named accepted (filter (passes (into flow) accepted) ids)) (none_of_drops moment why gone (sent_events moment (Some g)))
    ∙ elim (cases_Bool (passes (into flow) accepted g.waiting.id)) [ inl t ↦ rw t (omega arith) | inr t ↦ rw t refl ]

-- what waits in a flow was accepted into it
abbrev IsFrom : List Acceptance → ℕ → Waiting → Type 0
IsFrom accepted flow w = (a : Acceptance) × (named accepted w.id ≡ Some a) × (a.flow ≡ flow) × (a.packet.len ≡ w.packet.len)

waits_from : (flow_of : FiveTuple → ℕ) (queue_of : ℕ → List Waiting) (events : List Event) (next_id last : ℕ) (closed : Bool) → IsHistory flow_of queue_of events next_id last closed
    → (flow : ℕ) → AllByRecursion (IsFrom (acceptances events) flow) (queue_of flow)
waits_from flow_of queue_of events next_id last closed h flow =
    let accepted = acceptances events in
    let line = h.lines flow in
    let rest = (parts_own flow accepted line.gone line.rest (Rises-range 0 next_id accepted h.ids) line.split).1 in
    rw line.queue
    (ByRecursion-map waiting_of (IsFrom accepted flow) line.rest
    (ByRecursion-weaker (IsOwn flow accepted) (λ a. IsFrom accepted flow (waiting_of a)) line.rest (λ a own. (a, own.0, eqb-true a.flow flow own.1, refl)) rest))

-- so its bytes are those of that flow, and of no other
bytes_from : (accepted more : List Acceptance) (head flow : ℕ) (g : Given) → IsFrom accepted head g.waiting → bytes_given (accepted ++ more) flow (Some g) ≡ share_of head flow g.waiting.packet.len
bytes_from accepted more head flow g from =
    let found : named (accepted ++ more) g.waiting.id ≡ Some from.0 = rw (find-append (λ (b : Acceptance). eqb b.id g.waiting.id) accepted more, from.1) refl in
    rw (found, from.2, from.3) refl

-- THE STEPS OF A RUN

module _ (p : Policy) (drops : DropsFromHeads p) (some_quantum : 0 < p.quantum) (flows : ℕ) (flow_of : FiveTuple → ℕ) (f g : ℕ) (differ : f ≢ g) where
  abbrev d : Discipline FairQueues
  d = fair_queueing p flows flow_of

  abbrev Kept : State FairQueues → List Event → Type 0
  Kept s events = Keeps d queue_of (fair_is_fifo p drops flows flow_of) s events

  abbrev EvenOver : List Acceptance → State FairQueues → List Event → State FairQueues → Type 0
  EvenOver accepted old made new = Balanced p.quantum f g old.queues (bytes_sent accepted f made) (bytes_sent accepted g made) new.queues

  abbrev AreOld : State FairQueues → Type 0
  AreOld s = Olds f g s.queues

  -- an arrival changes no credits of a flow that is listed
  credits_stay : (s : FairQueues) (flow x : ℕ) → Has s.lists.old_flows x → credits_of (with_flow_listed p s flow) x ≡ credits_of s x
  credits_stay s flow x old =
      elim (cases_Bool (is_listed s flow)) [
        | inl t ↦ rw t refl
        | inr t ↦
            let apart = has_differs (s.lists.new_flows ++ s.lists.old_flows) x in
            let differs : x ≢ flow = λ e. has_differs (s.lists.new_flows ++ s.lists.old_flows) flow (apart_from_any flow (s.lists.new_flows ++ s.lists.old_flows) t) (subst (Has (s.lists.new_flows ++ s.lists.old_flows)) e (has_right s.lists.new_flows s.lists.old_flows x old)) in
            rw t (ap (λ (a : FlowState). a.credits) (get_or-set_other s.flow_states flow x (record (flow_state_at s flow) { credits = pos p.quantum }) new_flow_state differs))
      ]

  old_stay : (s : FairQueues) (flow : ℕ) → (with_flow_listed p s flow).lists.old_flows ≡ s.lists.old_flows
  old_stay s flow = elim (cases_Bool (is_listed s flow)) [ inl t ↦ rw t refl | inr t ↦ rw t refl ]

  admits_even : (accepted : List Acceptance) (old new : State FairQueues) (moment lane : ℕ) (packet : PacketParts) (made : List Event) → Admits d old moment lane packet made new → AreOld old → EvenOver accepted old made new
  admits_even accepted old new moment lane packet made m olds =
      let a = m.queues in
      let flow = flow_of packet.tuple in
      let none : (x : ℕ) → bytes_sent accepted x made ≡ 0 = λ x. rw m.told (rw (← append-nil (map (drop_event moment cause.Overflow) m.lost)) (bytes_served accepted x moment cause.Overflow m.lost None)) in
      let lists = ap (λ (s : FairQueues). s.lists.old_flows) a.rest ∙ old_stay old.queues flow in
      let credits = λ (x : ℕ) (has : Has old.queues.lists.old_flows x). ap (λ (s : FairQueues). credits_of s x) a.rest ∙ credits_stay old.queues flow x has in
      rw (none f, none g, lists, credits f olds.0, credits g olds.1) refl

  serves_even : (accepted more : List Acceptance) (old new : State FairQueues) (moment : ℕ) (given : Option Given) (made events : List Event) → Serves d old moment given made new → Kept old events → accepted ≡ acceptances events ++ more
      → AreSound old.queues → AreOld old → AreOld new → EvenOver accepted old made new
  serves_even accepted more old new moment given made events m kept is sound before after =
      let n = m.queues in
      let bytes = λ (x : ℕ). ap (bytes_sent accepted x) m.told ∙ bytes_served accepted x moment cause.Codel m.dropped given ∙ ap (bytes_given accepted x) n.given_by in
      rw (bytes f, bytes g)
      (elim (chain_shares p some_quantum moment f g differ n.turns old.queues new.queues sound before after n.chain) [
        | inl none ↦ rw none.0 none.1
        | inr one ↦
            let from = at_place (IsFrom (acceptances events) one.0.flow) one.2 (queue_of old.queues one.0.flow) one.1.given.waiting (waits_from flow_of (queue_of old.queues) events old.next_id old.last old.closed kept one.0.flow) one.4 in
            let own = λ (x : ℕ). ap (λ (l : List Acceptance). bytes_given l x (Some one.1.given)) is ∙ bytes_from (acceptances events) more one.0.flow x one.1.given from in
            rw (one.3, own f, own g) one.5
      ])

  makes_even : (accepted more : List Acceptance) (old new : State FairQueues) (step : Step) (said : Answer) (made events : List Event) → Makes d old step said made new → Kept old events → accepted ≡ acceptances events ++ more
      → AreSound old.queues → AreOld old → AreOld new → EvenOver accepted old made new
  makes_even accepted more old new (Enqueue moment lane packet) said made events m kept is sound before after = admits_even accepted old new moment lane packet made m.1 before
  makes_even accepted more old new (Dequeue moment) said made events m kept is sound before after = serves_even accepted more old new moment m.0 made events m.2 kept is sound before after
  makes_even accepted more old new (Close moment) said made events m kept is sound before after = rw (m.1.told, m.1.state) refl

  steps_even : (accepted more : List Acceptance) (old new : State FairQueues) (step : Step) (said : Answer) (made events : List Event) → Steps d old step said made new → Kept old events → accepted ≡ acceptances events ++ more
      → AreSound old.queues → AreOld old → AreOld new → EvenOver accepted old made new
  steps_even accepted more old new step said made events s kept is sound before after = go (refusal_of old step) s
    where
      go : (o : Option Refusal) → MatchOption o (Makes d old step said made new) (λ r. (said ≡ answer.Refused r) × (made ≡ []) × (new ≡ old)) → EvenOver accepted old made new
      go None m = makes_even accepted more old new step said made events m kept is sound before after
      go (Some r) m = rw (m.1, m.2) refl

  -- both stay old at each point of the run
  abbrev StayOld : State FairQueues → List Step → Type 0
  StayOld old steps = (k : ℕ) → k ≤ length steps → (made : List Made) (s : State FairQueues) → Runs d old (take k steps) made s → AreOld s

  pub runs_even : (accepted more : List Acceptance) (old new : State FairQueues) (steps : List Step) (made : List Made) (events : List Event) → Runs d old steps made new → Kept old events → accepted ≡ acceptances (events ++ journal_of made) ++ more
      → AreSoundFlows flows old.queues → StayOld old steps → EvenOver accepted old (journal_of made) new
  runs_even accepted more old new [] [] events r kept is sound olds = rw r refl
  runs_even accepted more old new [] (m ∷ made) events r kept is sound olds = absurd r
  runs_even accepted more old new (step ∷ steps) [] events r kept is sound olds = absurd r
  runs_even accepted more old new (step ∷ steps) (m ∷ made) events r kept is sound olds =
      let mid = r.0 in
      let rest = journal_of made in
      let before = olds 0 (omega arith) [] old refl in
      let between = olds 1 (omega arith) (m ∷ []) mid (mid, r.1, refl) in
      let more' = acceptances (m.events ++ rest) ++ more in
      let is_first : accepted ≡ acceptances events ++ more' = is ∙ ap (λ l. l ++ more) (filter_map-append acceptance_of events (m.events ++ rest)) ∙ append_assoc (acceptances events) (acceptances (m.events ++ rest)) more in
      let is_rest : accepted ≡ acceptances ((events ++ m.events) ++ rest) ++ more = is ∙ ap (λ es. acceptances es ++ more) (sym (append_assoc events m.events rest)) in
      let first = steps_even accepted more' old mid step m.answer m.events events r.1 kept is_first sound.sound before between in
      let kept' = keeps_steps d queue_of (fair_is_fifo p drops flows flow_of) old mid step m.answer m.events events r.1 kept in
      let sound' = runs_sound p some_quantum drops flows flow_of old mid (step ∷ []) (m ∷ []) (mid, r.1, refl) sound in
      let behind = runs_even accepted more mid new steps made (events ++ m.events) r.2 kept' is_rest sound' (λ k below made' s r'. olds (suc k) (omega arith) (m ∷ made') s (mid, r.1, r')) in
      rw (bytes_append accepted f m.events rest, bytes_append accepted g m.events rest) (omega (arith, ints, first, behind))

-- PARTS OF RUNS

module _ {Q : Type 0} (d : Discipline Q) where
  -- a run stands somewhere behind its first so many steps
  pub runs_split : (k : ℕ) (old new : State Q) (steps : List Step) (made : List Made) → Runs d old steps made new → (mid : State Q) × Runs d old (take k steps) (take k made) mid × Runs d mid (drop k steps) (drop k made) new
  runs_split zero old new steps made r = (old, refl, r)
  runs_split (suc k) old new [] [] r = (old, refl, r)
  runs_split (suc k) old new [] (m ∷ made) r = absurd r
  runs_split (suc k) old new (step ∷ steps) [] r = absurd r
  runs_split (suc k) old new (step ∷ steps) (m ∷ made) r = let rest = runs_split k r.0 new steps made r.2 in (rest.0, (r.0, r.1, rest.1), rest.2)

  -- one run behind another
  pub runs_join : (old mid new : State Q) (steps steps' : List Step) (made made' : List Made) → Runs d old steps made mid → Runs d mid steps' made' new → Runs d old (steps ++ steps') (made ++ made') new
  runs_join old mid new [] steps' [] made' r r' = subst (λ (s : State Q). Runs d s steps' made' new) r r'
  runs_join old mid new [] steps' (m ∷ made) made' r r' = absurd r
  runs_join old mid new (step ∷ steps) steps' [] made' r r' = absurd r
  runs_join old mid new (step ∷ steps) steps' (m ∷ made) made' r r' = (r.0, r.1, runs_join r.0 mid new steps steps' made made' r.2 r')

take_take : {X : Type 0} (k n : ℕ) (xs : List X) → k ≤ n → take k (take n xs) ≡ take k xs
take_take zero n xs le = refl
take_take (suc k) zero xs le = absurd (omega arith)
take_take (suc k) (suc n) [] le = refl
take_take (suc k) (suc n) (x ∷ xs) le = ap (λ l. x ∷ l) (take_take k n xs (omega arith))

length_take_most : {X : Type 0} (n : ℕ) (xs : List X) → length (take n xs) ≤ n
length_take_most zero xs = omega arith
length_take_most (suc n) [] = omega arith
length_take_most (suc n) (x ∷ xs) = let e = length_take_most n xs in omega arith

-- THE LAW

module _ (p : ParamFields) (seed : Seed) (some_quantum : 0 < p.quantum) where
  abbrev policy : Policy
  policy = fq_codel_policy p

  abbrev flow_of : FiveTuple → ℕ
  flow_of = flow_number p.classify p.flows seed

  abbrev start : State FairQueues
  start = opening_state (no_queues p.flows)

  credits_at : (most : ℕ) → 0 < most → (steps : List Step) (made : List Made) (s : State FairQueues) → Runs (fq_codel p seed) start steps made s → AcceptsFitting (λ packet. packet.len ≤ most) (journal_of made) → AreCreditsKept p.quantum most s.queues
  credits_at most some steps made s r accepts = runs_credits policy (policy_drops p) most p.flows flow_of start s steps made r accepts (opening_credits p.quantum most p.flows some)

  module _ (steps : List Step) (made : List Made) (new : State FairQueues) (r : Runs (fq_codel p seed) start steps made new) (a b : ℕ) (ordered : a ≤ b) where
    abbrev most : ℕ
    most = longest (acceptances (journal_of (take b made)))

    abbrev between : List Made
    between = take (b - a) (drop a made)

    up_to : {X : Type 0} (xs : List X) → take b xs ≡ take a xs ++ take (b - a) (drop a xs)
    up_to xs = ap (λ n. take n xs) (let e : b ≡ a + (b - a) = omega arith in e) ∙ take-add a (b - a) xs

    pub fair_shares : (f g : ℕ) → StaysOld (fq_codel p seed) steps a b f → StaysOld (fq_codel p seed) steps a b g → bytes_between made a b f ≤ bytes_between made a b g + 3 * p.quantum + 2 * (most - 1)
    fair_shares f g olds_f olds_g =
        elim (cases_eq f g) [
          | inl same ↦ rw same (omega arith)
          | inr differ ↦ apart differ
        ]
      where
        journal_is : (xs ys : List Made) → journal_of (xs ++ ys) ≡ journal_of xs ++ journal_of ys
        journal_is xs ys = flat_map-append (λ (m : Made). m.events) xs ys

        apart : f ≢ g → bytes_between made a b f ≤ bytes_between made a b g + 3 * p.quantum + 2 * (most - 1)
        apart differ =
            let first = runs_split (fq_codel p seed) a start new steps made r in
            let second = runs_split (fq_codel p seed) (b - a) first.0 new (drop a steps) (drop a made) first.2 in
            let sa = first.0 in
            let sb = second.0 in
            let fifo = fair_is_fifo policy (policy_drops p) p.flows flow_of in
            let kept = keeps_runs (fq_codel p seed) queue_of fifo start sa (take a steps) (take a made) [] first.1 (keeps_opening (fq_codel p seed) queue_of fifo) in
            let sound = runs_sound policy some_quantum (policy_drops p) p.flows flow_of start sa (take a steps) (take a made) first.1 (opening_sound p.flows) in
            let rest = drop (b - a) (drop a made) in
            let whole : journal_of made ≡ (journal_of (take a made) ++ journal_of between) ++ journal_of rest =
            ap journal_of (sym (take-append-drop a made) ∙ ap (λ l. take a made ++ l) (sym (take-append-drop (b - a) (drop a made))) ∙ sym (append_assoc (take a made) between rest))
            ∙ journal_is (take a made ++ between) rest ∙ ap (λ es. es ++ journal_of rest) (journal_is (take a made) between) in
            let accepted : acceptances (journal_of made) ≡ acceptances (journal_of (take a made) ++ journal_of between) ++ acceptances (journal_of rest) =
            ap acceptances whole ∙ filter_map-append acceptance_of (journal_of (take a made) ++ journal_of between) (journal_of rest) in
            let stay = λ (k : ℕ) (below : k ≤ length (take (b - a) (drop a steps))) (made' : List Made) (s : State FairQueues) (r' : Runs (fq_codel p seed) sa (take k (take (b - a) (drop a steps))) made' s).
            let few : k ≤ b - a = let e = length_take_most (b - a) (drop a steps) in omega arith in
            let joined = runs_join (fq_codel p seed) start sa s (take a steps) (take k (take (b - a) (drop a steps))) (take a made) made' first.1 r' in
            let steps_are : take a steps ++ take k (take (b - a) (drop a steps)) ≡ take (a + k) steps = ap (λ l. take a steps ++ l) (take_take k (b - a) (drop a steps) few) ∙ sym (take-add a k steps) in
            let so_far = subst (λ l. Runs (fq_codel p seed) start l (take a made ++ made') s) steps_are joined in
            let both : Olds f g s.queues = (has_contained s.queues.lists.old_flows f (olds_f (a + k) (omega arith) (omega arith) (take a made ++ made') s so_far), has_contained s.queues.lists.old_flows g (olds_g (a + k) (omega arith) (omega arith) (take a made ++ made') s so_far)) in both in
            let even = runs_even policy (policy_drops p) some_quantum p.flows flow_of f g differ (acceptances (journal_of made)) (acceptances (journal_of rest)) sa sb (take (b - a) (drop a steps)) between (journal_of (take a made)) second.1 kept accepted sound stay in
            let fits : AcceptsFitting (λ packet. packet.len ≤ most) (journal_of (take a made) ++ journal_of between) = rw (← journal_is (take a made) between, ← up_to made) (longest_most (acceptances (journal_of (take b made)))) in
            let parts = ByRecursion-parts (λ (x : Acceptance). x.packet.len ≤ most) (acceptances (journal_of (take a made))) (acceptances (journal_of between)) (rw (← filter_map-append acceptance_of (journal_of (take a made)) (journal_of between)) fits) in
            let some = some_longest (acceptances (journal_of (take b made))) in
            let at_a = credits_at most some (take a steps) (take a made) sa first.1 parts.0 in
            let to_b = runs_join (fq_codel p seed) start sa sb (take a steps) (take (b - a) (drop a steps)) (take a made) between first.1 second.1 in
            let at_b = credits_at most some (take a steps ++ take (b - a) (drop a steps)) (take a made ++ between) sb to_b (rw (journal_is (take a made) between) fits) in
            let low_a = at_a.low f in
            let high_a = at_a.high f in
            let low_a' = at_a.low g in
            let high_a' = at_a.high g in
            let low_b = at_b.low f in
            let high_b = at_b.high f in
            let low_b' = at_b.low g in
            let high_b' = at_b.high g in
            let lead_a = lead_most p.quantum f g sa.queues.lists.old_flows in
            let lead_b = lead_most p.quantum f g sb.queues.lists.old_flows in
            omega (arith, ints, even)

-- the run of those steps, with its journal
pub shares_fairly : (p : ParamFields) (seed : Seed) → 0 < p.quantum → (steps : List Step) (sched : Standing FairQueues) → IsRunOf (fq_codel p seed) steps sched → (a b f g : ℕ) → a ≤ b → SharesFairly p seed steps sched.events a b f g
shares_fairly p seed some_quantum steps sched run a b f g ordered = record {
  made = run.made;
  new = sched.state;
  runs = run.runs;
  journal = run.journal;
  near = λ olds_f olds_g.
      let law = fair_shares p seed some_quantum steps run.made sched.state run.runs a b ordered in
      let more_f = law f g olds_f olds_g in
      let more_g = law g f olds_g olds_f in
      (omega arith, omega arith);
}
