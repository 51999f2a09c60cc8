-- How whole runs of the worked examples are computed: a step and a run, each with the lemma that it is what the definitions mean.
use Rattle.std.proofs.Common.{◌≡◌, ℕ, zero, suc, ◌+◌, ◌<◌, ◌≤◌, max, Bool, true, false, ◌&&◌, ◌||◌, ◌⊎◌, inl, inr, List, [], ◌∷◌, ◌++◌, set, length, map, sum_by, Option, Some, None, MatchOption, IsSomeAnd, if◌then◌else◌, nat_le, nat_lt, refl, sym, subst, arith}
use Rattle.std.proofs.lemmas.Bool.{and_parts, cases_Bool, leb-true, ltb-false, ltb-true, or_parts}
use Rattle.packet_core.specs.FlowNumber.{flow_number}
use Rattle.packet_core.specs.Packets.{PacketParts}
use Rattle.packet_core.specs.declared.flow.Seed.{Seed}
use Rattle.packet_core.specs.declared.packet.Ecn.TheVariants.{NotEct}
use Rattle.packet_core.specs.declared.packet.Ip.TheVariants.{V4}
use Rattle.packet_core.specs.declared.packet.Waiting.{Waiting}
use Rattle.codel_core.specs.declared.served.Mark.TheVariants.{NoMark}
use Rattle.packet_core.specs.declared.params.ParamFields.{ParamFields}
use Rattle.codel_core.specs.Queue.{bytes_of}
use Rattle.flow_core.specs.Fattest.{IsFattest, bytes_at}
use Rattle.flow_core.specs.FlowLists.{queue_at}
use Rattle.journal_core.specs.declared.event.Cause.TheVariants as cause
use Rattle.journal_core.specs.declared.event.Event.{Event}
use Rattle.journal_core.specs.declared.event.Event.TheVariants as event
use Rattle.journal_core.specs.declared.outcome.Answer.{Answer}
use Rattle.journal_core.specs.declared.outcome.Answer.TheVariants as answer
use Rattle.journal_core.specs.declared.step.Refusal.{Refusal}
use Rattle.journal_core.specs.declared.step.Step.{Step}
use Rattle.journal_core.specs.declared.step.Step.TheVariants.{Enqueue, Dequeue, Close}
use Rattle.fair_core.specs.FairQueueing.{dropped_in, given_in, with_flow_listed}
use Rattle.fair_core.specs.FairQueues.{FairQueues, no_queues}
use Rattle.fair_core.specs.FqCodel.{fq_codel, fq_codel_policy}
use Rattle.fair_core.specs.Overflow.{Exceeds, Overflow, batch_of, without_batch}
use Rattle.journal_core.specs.Disciplines.{Batch, packets_of}
use Rattle.journal_core.specs.Runs.{Made, Runs}
use Rattle.journal_core.specs.State.{State, arrival, opening_state, refusal_of}
use Rattle.journal_core.specs.Steps.{Makes, Steps, dequeue_answer, drop_event, sent_events}
use Rattle.fair_core.specs.Turns.{Chain, TurnMade, service_in}
use Rattle.test_definitions.proofs.ComputedChains.{Walk, walk}

-- THE FATTEST FLOW

-- the least of the flows with most bytes, in a scan from that number on, with the fattest one so far and its bytes
abbrev pub fattest_from : List (List Waiting) → ℕ → ℕ → ℕ → ℕ
fattest_from [] number fattest most = fattest
fattest_from (q ∷ queues) number fattest most = fattest_from queues (suc number) (if nat_lt most (bytes_of q) then number else fattest) (max most (bytes_of q))

abbrev at_most : ℕ → List (List Waiting) → Bool
at_most most [] = true
at_most most (q ∷ queues) = nat_le (bytes_of q) most && at_most most queues

abbrev are_below : ℕ → ℕ → List (List Waiting) → Bool
are_below most zero queues = true
are_below most (suc flow) [] = false
are_below most (suc flow) (q ∷ queues) = nat_lt (bytes_of q) most && are_below most flow queues

abbrev pub is_fattest : List (List Waiting) → ℕ → Bool
is_fattest queues flow = (nat_lt flow (length queues) && nat_lt 0 (bytes_at queues flow)) && (at_most (bytes_at queues flow) queues && are_below (bytes_at queues flow) flow queues)

all_at_most : (most : ℕ) (queues : List (List Waiting)) → at_most most queues ≡ true → (other : ℕ) → bytes_at queues other ≤ most
all_at_most most [] e other = omega arith
all_at_most most (q ∷ queues) e zero = leb-true (bytes_of q) most (and_parts (nat_le (bytes_of q) most) (at_most most queues) e).0
all_at_most most (q ∷ queues) e (suc other) = all_at_most most queues (and_parts (nat_le (bytes_of q) most) (at_most most queues) e).1 other

all_below : (most flow : ℕ) (queues : List (List Waiting)) → are_below most flow queues ≡ true → (other : ℕ) → other < flow → bytes_at queues other < most
all_below most zero queues e other below = absurd (omega arith)
all_below most (suc flow) [] e other below = absurd cc
all_below most (suc flow) (q ∷ queues) e zero below = ltb-true (bytes_of q) most (and_parts (nat_lt (bytes_of q) most) (are_below most flow queues) e).0
all_below most (suc flow) (q ∷ queues) e (suc other) below = all_below most flow queues (and_parts (nat_lt (bytes_of q) most) (are_below most flow queues) e).1 other (omega arith)

fattest_is : (queues : List (List Waiting)) (flow : ℕ) → is_fattest queues flow ≡ true → IsFattest queues flow
fattest_is queues flow e =
    let most = bytes_at queues flow in
    let both = and_parts (nat_lt flow (length queues) && nat_lt 0 most) (at_most most queues && are_below most flow queues) e in
    let stands = and_parts (nat_lt flow (length queues)) (nat_lt 0 most) both.0 in
    let beats = and_parts (at_most most queues) (are_below most flow queues) both.1 in
    record {
      within = ltb-true flow (length queues) stands.0;
      waits = ltb-true 0 most stands.1;
      greatest = all_at_most most queues beats.0;
      least = all_below most flow queues beats.1;
    }

-- WHAT OVERFLOWS

-- whether more bytes wait than that, where it is set
abbrev are_more : Option ℕ → ℕ → Bool
are_more None bytes = false
are_more (Some most) bytes = nat_lt most bytes

-- whether too much waits
abbrev exceeds : ParamFields → List (List Waiting) → Bool
exceeds p queues = nat_lt p.limit (sum_by length queues) || are_more p.memory_limit (sum_by bytes_of queues)

more_are : (o : Option ℕ) (bytes : ℕ) → are_more o bytes ≡ true → IsSomeAnd o (λ most. most < bytes)
more_are None bytes e = absurd cc
more_are (Some most) bytes e = ltb-true most bytes e

no_more_are : (o : Option ℕ) (bytes : ℕ) → are_more o bytes ≡ false → ¬ IsSomeAnd o (λ most. most < bytes)
no_more_are None bytes e = λ h. h
no_more_are (Some most) bytes e = λ h. let few = ltb-false most bytes e in omega arith

exceeds_is : (p : ParamFields) (queues : List (List Waiting)) → exceeds p queues ≡ true → Exceeds p queues
exceeds_is p queues e =
    elim (cases_Bool (nat_lt p.limit (sum_by length queues))) [
      | inl many ↦ inl (ltb-true p.limit (sum_by length queues) many)
      | inr few ↦ inr (more_are p.memory_limit (sum_by bytes_of queues) (rw few at e))
    ]

fits_is : (p : ParamFields) (queues : List (List Waiting)) → exceeds p queues ≡ false → ¬ Exceeds p queues
fits_is p queues e much =
    let both = or_parts (nat_lt p.limit (sum_by length queues)) (are_more p.memory_limit (sum_by bytes_of queues)) e in
    let few = ltb-false p.limit (sum_by length queues) both.0 in
    elim much [
      | inl many ↦ omega arith
      | inr more ↦ no_more_are p.memory_limit (sum_by bytes_of queues) both.1 more
    ]

-- the batches that are lost, and the queues behind them; `good` says that the computation holds of it
record Lost : Type 0 where
  batches : List Batch
  queues : List (List Waiting)
  good : Bool

abbrev lost_by : ParamFields → (List (List Waiting) → Lost) → List (List Waiting) → Bool → Lost
lost_by p further queues false = record { batches = []; queues = queues; good = true }
lost_by p further queues true =
    let fattest = fattest_from queues 0 0 0 in
    let rest = further (without_batch p.drop_batch queues fattest) in
    record { batches = batch_of p.drop_batch queues fattest ∷ rest.batches; queues = rest.queues; good = is_fattest queues fattest && rest.good }

-- what is lost, if fewer batches are than that
abbrev lost : ℕ → ParamFields → List (List Waiting) → Lost
lost zero p queues = record { batches = []; queues = queues; good = false }
lost (suc fuel) p queues = lost_by p (λ next. lost fuel p next) queues (exceeds p queues)

lost_is : (fuel : ℕ) (p : ParamFields) (queues : List (List Waiting)) → (lost fuel p queues).good ≡ true → Overflow p queues (lost fuel p queues).batches (lost fuel p queues).queues
lost_is zero p queues e = absurd cc
lost_is (suc fuel) p queues e = by (λ next. lost_is fuel p next) (exceeds p queues) refl e
  where
    by : ((next : List (List Waiting)) → (lost fuel p next).good ≡ true → Overflow p next (lost fuel p next).batches (lost fuel p next).queues)
        → (b : Bool) → exceeds p queues ≡ b → (lost_by p (λ next. lost fuel p next) queues b).good ≡ true
        → Overflow p queues (lost_by p (λ next. lost fuel p next) queues b).batches (lost_by p (λ next. lost fuel p next) queues b).queues
    by further false is good = (fits_is p queues is, refl)
    by further true is good =
        let fattest = fattest_from queues 0 0 0 in
        let next = without_batch p.drop_batch queues fattest in
        let both = and_parts (is_fattest queues fattest) (lost fuel p next).good good in
        (exceeds_is p queues is, fattest_is queues fattest both.0, refl, further next both.1)

-- STEPS

-- what a step gives; `good` says that the computation holds of it
pub record Stepped : Type 0 where
  pub answer : Answer
  pub events : List Event
  pub state : State FairQueues
  pub good : Bool

-- and what a list of steps does
pub record Run : Type 0 where
  pub made : List Made
  pub state : State FairQueues
  pub good : Bool

module _ (p : ParamFields) (seed : Seed) where
  abbrev flow_of : PacketParts → ℕ
  flow_of packet = flow_number p.classify p.flows seed packet.tuple

  -- the queues with the packet at the tail of its flow's
  abbrev arrived : State FairQueues → ℕ → PacketParts → List (List Waiting)
  arrived old moment packet = set old.queues.lists.queues (flow_of packet) (queue_at old.queues.lists (flow_of packet) ++ arrival old moment packet ∷ [])

  abbrev listed_with : FairQueues → ℕ → List (List Waiting) → FairQueues
  listed_with s flow queues = let listed = with_flow_listed (fq_codel_policy p) s flow in record listed { lists = record listed.lists { queues = queues } }

  abbrev after : State FairQueues → ℕ → PacketParts → List (List Waiting) → State FairQueues
  after old moment packet queues = record { queues = listed_with old.queues (flow_of packet) queues; next_id = old.next_id + 1; last = moment; closed = old.closed }

  abbrev accepted : State FairQueues → ℕ → ℕ → PacketParts → Event
  accepted old moment lane packet = event.Accepted lane old.next_id moment (flow_of packet) packet

  abbrev admitted : State FairQueues → ℕ → ℕ → PacketParts → Lost → Stepped
  admitted old moment lane packet gone = record {
    answer = answer.Accepted;
    events = accepted old moment lane packet ∷ map (drop_event moment cause.Overflow) (packets_of gone.batches);
    state = after old moment packet gone.queues;
    good = nat_lt (flow_of packet) (length old.queues.lists.queues) && gone.good;
  }

  abbrev dequeued : (old : State FairQueues) (moment : ℕ) → Option (Walk p moment old.queues) → Stepped
  dequeued old moment None = record { answer = answer.Idle; events = []; state = old; good = false }
  dequeued old moment (Some w) = record {
    answer = dequeue_answer (given_in (service_in w.turns));
    events = map (drop_event moment cause.Codel) (dropped_in (service_in w.turns)) ++ sent_events moment (given_in (service_in w.turns));
    state = record old { queues = w.queues; last = moment };
    good = true;
  }

  abbrev stepped : State FairQueues → Step → Option Refusal → Stepped
  stepped old step (Some r) = record { answer = answer.Refused r; events = []; state = old; good = true }
  stepped old (Enqueue moment lane packet) None = admitted old moment lane packet (lost 10 p (arrived old moment packet))
  stepped old (Dequeue moment) None = dequeued old moment (walk p moment 10 old.queues)
  stepped old (Close moment) None = record { answer = answer.Closed; events = event.Closed moment ∷ []; state = record old { last = moment; closed = true }; good = true }

  abbrev MakesSo : State FairQueues → Step → Stepped → Type 0
  MakesSo old step s = Makes (fq_codel p seed) old step s.answer s.events s.state

  admitted_is : (old : State FairQueues) (moment lane : ℕ) (packet : PacketParts) → (admitted old moment lane packet (lost 10 p (arrived old moment packet))).good ≡ true
      → MakesSo old (Enqueue moment lane packet) (admitted old moment lane packet (lost 10 p (arrived old moment packet)))
  admitted_is old moment lane packet e =
      let gone = lost 10 p (arrived old moment packet) in
      let both = and_parts (nat_lt (flow_of packet) (length old.queues.lists.queues)) gone.good e in (
        refl,
        record {
          lost = packets_of gone.batches;
          queues = record {
            within = ltb-true (flow_of packet) (length old.queues.lists.queues) both.0;
            batches = gone.batches;
            overflow = lost_is 10 p (arrived old moment packet) both.1;
            lost_in_order = refl;
            rest = refl;
          };
          told = refl;
          next_id = refl;
          last = refl;
          closed = refl;
        },
      )

  dequeued_is : (old : State FairQueues) (moment : ℕ) (o : Option (Walk p moment old.queues)) → (dequeued old moment o).good ≡ true
      → MakesSo old (Dequeue moment) (dequeued old moment o)
  dequeued_is old moment None e = absurd cc
  dequeued_is old moment (Some w) e = (
    given_in (service_in w.turns),
    refl,
    record {
      dropped = dropped_in (service_in w.turns);
      queues = record { turns = w.turns; chain = w.chain; dropped_by = refl; given_by = refl };
      told = refl;
      next_id = refl;
      last = refl;
      closed = refl;
    },
  )

  made_is : (old : State FairQueues) (step : Step) → (stepped old step None).good ≡ true → MakesSo old step (stepped old step None)
  made_is old (Enqueue moment lane packet) e = admitted_is old moment lane packet e
  made_is old (Dequeue moment) e = dequeued_is old moment (walk p moment 10 old.queues) e
  made_is old (Close moment) e = (refl, record { told = refl; state = refl })

  stepped_is : (old : State FairQueues) (step : Step) (r : Option Refusal) → refusal_of old step ≡ r → (stepped old step r).good ≡ true → Steps (fq_codel p seed) old step (stepped old step r).answer (stepped old step r).events (stepped old step r).state
  stepped_is old step (Some r) is e =
      let s = stepped old step (Some r) in
      subst (λ (o : Option Refusal). MatchOption o (MakesSo old step s) (λ r'. (s.answer ≡ answer.Refused r') × (s.events ≡ []) × (s.state ≡ old))) (sym is) (refl, refl, refl)
  stepped_is old step None is e =
      let s = stepped old step None in
      subst (λ (o : Option Refusal). MatchOption o (MakesSo old step s) (λ r. (s.answer ≡ answer.Refused r) × (s.events ≡ []) × (s.state ≡ old))) (sym is) (made_is old step e)

  abbrev pub run_from : State FairQueues → List Step → Run
  run_from old [] = record { made = []; state = old; good = true }
  run_from old (step ∷ steps) =
      let s = stepped old step (refusal_of old step) in
      let rest = run_from s.state steps in
      record { made = record { answer = s.answer; events = s.events } ∷ rest.made; state = rest.state; good = s.good && rest.good }

  pub run_is : (old : State FairQueues) (steps : List Step) → (run_from old steps).good ≡ true → Runs (fq_codel p seed) old steps (run_from old steps).made (run_from old steps).state
  run_is old [] e = refl
  run_is old (step ∷ steps) e =
      let s = stepped old step (refusal_of old step) in
      let both = and_parts s.good ((run_from s.state steps).good) e in
      (s.state, stepped_is old step (refusal_of old step) refl both.0, run_is s.state steps both.1)

-- there is a run of those steps from the opening state, and it gives that
pub record RunGives (p : ParamFields) (seed : Seed) (steps : List Step) (made : List Made) : Type 0 where
  pub state : State FairQueues
  pub runs : Runs (fq_codel p seed) (opening_state (no_queues p.flows)) steps made state

-- there is one, and that holds of the state that it leaves
pub record RunLeaves (p : ParamFields) (seed : Seed) (steps : List Step) (Holds : State FairQueues → Type 0) : Type 0 where
  pub made : List Made
  pub state : State FairQueues
  pub runs : Runs (fq_codel p seed) (opening_state (no_queues p.flows)) steps made state
  pub holds : Holds state

-- a dequeue of that state makes so many turns
abbrev pub MakesTurns : ParamFields → ℕ → ℕ → State FairQueues → Type 0
MakesTurns p moment turns s =
    (made : List TurnMade) × (new : FairQueues) × Chain (fq_codel_policy p) moment s.queues made new × (turns ≡ length made)

-- a serving chain that was computed is one
turns_are : (p : ParamFields) (moment turns : ℕ) (s : State FairQueues) (o : Option (Walk p moment s.queues))
    → IsSomeAnd o (λ w. length w.turns ≡ turns) → MakesTurns p moment turns s
turns_are p moment turns s None is = absurd is
turns_are p moment turns s (Some w) is = (w.turns, w.queues, w.chain, sym is)

module _ (p : ParamFields) (seed : Seed) (steps : List Step) where
  abbrev pub run_of : Run
  run_of = run_from p seed (opening_state (no_queues p.flows)) steps

  pub run_gives : run_of.good ≡ true → RunGives p seed steps run_of.made
  run_gives good = record { state = run_of.state; runs = run_is p seed (opening_state (no_queues p.flows)) steps good }

  pub run_leaves : (Holds : State FairQueues → Type 0) → run_of.good ≡ true → Holds run_of.state → RunLeaves p seed steps Holds
  run_leaves Holds good holds = record { made = run_of.made; state = run_of.state; runs = run_is p seed (opening_state (no_queues p.flows)) steps good; holds = holds }

  pub run_turns : (moment turns : ℕ) → run_of.good ≡ true → IsSomeAnd (walk p moment 10 run_of.state.queues) (λ w. length w.turns ≡ turns)
      → RunLeaves p seed steps (MakesTurns p moment turns)
  run_turns moment turns good is =
      run_leaves (MakesTurns p moment turns) good (turns_are p moment turns run_of.state (walk p moment 10 run_of.state.queues) is)

-- PACKETS AND WHAT STEPS GIVE

-- a packet of so many bytes to that port, and so to the flow of that number
abbrev pub packet_to : ℕ → ℕ → PacketParts
packet_to port len = record { tuple = record { proto = 17; src = V4 (10 ∷ 0 ∷ 0 ∷ 1 ∷ []); dst = V4 (10 ∷ 0 ∷ 0 ∷ 2 ∷ []); sport = 5000; dport = port }; len = len; ecn = NotEct; tag = 0 }

-- an enqueue at moment 0 into that flow, and what it gives
abbrev pub arrives : ℕ → ℕ → Step
arrives flow len = Enqueue 0 0 (packet_to flow len)

abbrev pub acceptance : ℕ → ℕ → ℕ → Event
acceptance id flow len = event.Accepted 0 id 0 flow (packet_to flow len)

abbrev pub accepts : ℕ → ℕ → ℕ → Made
accepts id flow len = record { answer = answer.Accepted; events = acceptance id flow len ∷ [] }

-- a dequeue that sends that packet without a mark, and one that is idle
abbrev pub sends : ℕ → ℕ → Made
sends id moment = record { answer = answer.Sent; events = event.Sent id moment NotEct NoMark ∷ [] }

abbrev pub idles : Made
idles = record { answer = answer.Idle; events = [] }
