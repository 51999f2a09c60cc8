use Rattle.std.specs.Prelude.{◌≡◌, ◌↔◌, IsNone, ℕ, ◌+◌, ◌^◌, min, ◌≤◌, List, ◌∷◌, [], ◌++◌, drop, take, get_or, set, length, slice_get, Option, Some, None, option_map, ℤ, pos, ◌+ℤ◌, ◌-ℤ◌, ◌≤ℤ◌}
use Rattle.packet_core.specs.declared.packet.Waiting.{Waiting}
use Rattle.packet_core.specs.declared.params.ParamFields.{ParamFields}
use Rattle.codel_core.specs.Schedule.{StaysInRange}
use Rattle.codel_core.specs.Verdict.{Decides, served}
use Rattle.codel_core.specs.declared.served.Mark.{Mark}
use Rattle.codel_core.specs.declared.served.Served.{Served}
use Rattle.codel_core.specs.declared.state.CodelState.{CodelState}
use Rattle.flow_core.specs.Fattest.{IsFattest}
use Rattle.flow_core.specs.FlowLists.{FlowLists, Holding, queue_at, waiting_in, with_queue}
use Rattle.flow_core.specs.Winners.{CountsFew}
use Rattle.fair_core.specs.declared.flow_state.FlowState.{FlowState}
use Rattle.fair_core.specs.declared.fair_queue.FairQueue.TheInside.{Inside}
use Rattle.journal_core.specs.declared.event.Cause.TheVariants as cause
use Rattle.journal_core.specs.Books.{Book}
use Rattle.journal_core.specs.Disciplines.{Batch, given_packet, packets_of}
use Rattle.fair_core.specs.FairQueueing.{dropped_in, given_in, with_flow_listed, with_queues}
use Rattle.fair_core.specs.FairQueues.{FairQueues, flow_state_at, new_flow_state, with_flow_state}
use Rattle.journal_core.specs.JournalDrops.{with_drops}
use Rattle.fair_core.specs.FqCodel.{fq_codel_policy}
use Rattle.fair_core.specs.Overflow.{Overflow, batch_of, without_batch}
use Rattle.fair_core.specs.Turns.{Chain, Service, Turn, TurnMade, service_by, service_in}

-- the flows as the scheduler sees them: how many packets came so far, for how many there is memory, and how often two
-- flows' bytes were compared since the last clear
pub record Held : Type 0 where
  pub queues : FairQueues
  pub arrived : ℕ
  pub capacity : ℕ
  pub comparisons : ℕ

-- what is held, once the flows are so, with those flow states
abbrev pub with_holding : Held → Holding → List FlowState → Held
with_holding old flows flow_states = record {
  queues = record { lists = flows.lists; flow_states = flow_states };
  arrived = old.arrived;
  capacity = flows.capacity;
  comparisons = flows.comparisons;
}

abbrev pub held_of : Inside → Held
held_of b = record {
  queues = record { lists = b.flows.lists; flow_states = b.flow_states.items };
  arrived = b.arrived;
  capacity = b.flows.capacity;
  comparisons = b.flows.comparisons;
}

-- the flows of what is held
abbrev pub held_flows : Held → Holding
held_flows h = record { lists = h.queues.lists; capacity = h.capacity; comparisons = h.comparisons }

-- The numbers of a flow state fit: CoDel's count is of packets that came, and so many that wait did not count yet.
pub record IsFlowStateInRange (flow_state : FlowState) (waiting arrived : ℕ) : Type 0 where
  pub low : pos 0 ≤ℤ (flow_state.credits +ℤ pos 65535)
  pub high : flow_state.credits ≤ℤ pos 1000000
  pub count : flow_state.codel.count + waiting ≤ arrived
  pub lastcount : flow_state.codel.lastcount ≤ arrived
  pub drop_next : flow_state.codel.drop_next ≤ 2 ^ 60 + 1000000000

-- What is kept of flows, flow states and the number of packets that came.
pub record AreHeld (lists : FlowLists) (flow_states : List FlowState) (arrived : ℕ) : Type 0 where
  pub as_many : length flow_states ≡ length lists.queues
  pub few : arrived ≤ 2 ^ 40
  pub waiting : waiting_in lists ≤ arrived
  pub numbers : (flow : ℕ)
      → IsFlowStateInRange (get_or flow_states flow new_flow_state) (length (queue_at lists flow)) arrived

abbrev pub IsHeld : Inside → Type 0
IsHeld b = AreHeld b.flows.lists b.flow_states.items b.arrived

-- other lists, and all else the same
abbrev pub with_lists : Held → FlowLists → Held
with_lists old lists = record old { queues = record old.queues { lists = lists } }

-- a packet at the tail of its flow's queue, which is listed
abbrev pub with_arrival_listed : ParamFields → FairQueues → ℕ → Waiting → FairQueues
with_arrival_listed p s flow w =
    with_queues (with_flow_listed (fq_codel_policy p) s flow)
    (set s.lists.queues flow (queue_at s.lists flow ++ w ∷ []))

-- the flows, once so many packets left the head of that flow's queue, with that count of comparisons
abbrev pub with_heads_gone : Holding → ℕ → ℕ → ℕ → Holding
with_heads_gone old flow n comparisons = record old {
  lists = with_queue old.lists flow (drop n (queue_at old.lists flow));
  comparisons = comparisons;
}

-- CoDel serves the queue of a flow: it drops packets, which the journal records, and gives the next one, if one waits.
-- Few comparisons come for each packet that leaves.
pub record ServesQueue (p : ParamFields) (now flow : ℕ) (old : Holding) (codel : CodelState) (book : Book)
    (answer : Option Served) (new : Holding) (codel' : CodelState) (book' : Book) : Type 0 where
  pub drops : ℕ
  pub mark : Mark
  pub decides : Decides p now (queue_at old.lists flow) codel drops mark codel'
  pub given : answer ≡ option_map (served mark) (slice_get (queue_at old.lists flow) drops)
  pub none : IsNone answer ↔ (queue_at old.lists flow ≡ [])
  pub rest : new ≡ with_heads_gone old flow (drops + 1) new.comparisons
  pub few_comparisons : CountsFew (length old.lists.queues) (min (drops + 1) (length (queue_at old.lists flow)))
      old.comparisons new.comparisons
  pub stays : StaysInRange p now codel (length (queue_at old.lists flow)) codel'
      (length (drop (drops + 1) (queue_at old.lists flow)))
  pub journal : book' ≡ with_drops book now cause.Codel (take drops (queue_at old.lists flow))

-- the credits once a packet was given, if one was
abbrev pub spent : ℤ → Option Served → ℤ
spent credits None = credits
spent credits (Some s) = credits -ℤ pos s.waiting.packet.len

-- CoDel serves the queue of a flow, and the length of the packet that is given is taken from the flow's credits.
pub record ServesFlow (p : ParamFields) (now flow : ℕ) (old : Held) (book : Book) (answer : Option Served) (new : Held)
    (book' : Book) : Type 0 where
  pub flows : Holding
  pub codel : CodelState
  pub serves : ServesQueue p now flow (held_flows old) (flow_state_at old.queues flow).codel book answer flows codel book'
  pub rest : new
      ≡ with_holding old flows
      (set old.queues.flow_states flow
      (record { credits = spent ((flow_state_at old.queues flow).credits) answer; codel = codel }))

-- how many packets leave in a service, if there is one
abbrev pub leaving : Option Service → ℕ
leaving service = length (dropped_in service) + length (given_packet (given_in service))

-- the packet that is served, with its field as sent
abbrev pub shown_service : Service → Served
shown_service s = served s.given.mark s.given.waiting

-- Turns with that service, or with none, gave the answer. The journal records what they dropped, and few comparisons
-- came for each packet that left.
pub record IsAnswered (now : ℕ) (service : Option Service) (old : Held) (book : Book) (answer : Option Served)
    (new : Held) (book' : Book) : Type 0 where
  pub given : answer ≡ option_map shown_service service
  pub journal : book' ≡ with_drops book now cause.Codel (dropped_in service)
  pub arrived : new.arrived ≡ old.arrived
  pub capacity : new.capacity ≡ old.capacity
  pub few_comparisons : CountsFew (length old.queues.lists.queues) (leaving service) old.comparisons new.comparisons

-- A turn is made, with that answer.
pub record MakesTurn (p : ParamFields) (now : ℕ) (old : Held) (book : Book) (answer : Option Served) (new : Held)
    (book' : Book) : Type 0 where
  pub made : TurnMade
  pub turn : Turn (fq_codel_policy p) now old.queues made new.queues
  pub answered : IsAnswered now (service_by made.kind) old book answer new book'

-- A serving chain of so many turns is made, with that answer.
pub record MakesChain (p : ParamFields) (now : ℕ) (old : Held) (book : Book) (count : ℕ) (answer : Option Served)
    (new : Held) (book' : Book) : Type 0 where
  pub turns : List TurnMade
  pub chain : Chain (fq_codel_policy p) now old.queues turns new.queues
  pub count_is : count ≡ length turns
  pub answered : IsAnswered now (service_in turns) old book answer new book'

-- a quantum more for that flow
abbrev pub with_credits_raised : ℕ → Held → ℕ → Held
with_credits_raised quantum old flow = record old {
  queues = with_flow_state old.queues old.queues.lists flow
      (record (flow_state_at old.queues flow) { credits = (flow_state_at old.queues flow).credits +ℤ pos quantum });
}

-- So many packets are dropped from the head of a flow's queue as overflow, with few comparisons for each packet, and
-- the journal records it.
pub record DropsHeads (flow n moment : ℕ) (old : Holding) (book : Book) (new : Holding) (book' : Book) : Type 0 where
  pub rest : new ≡ with_heads_gone old flow n new.comparisons
  pub few_comparisons : CountsFew (length old.lists.queues) (length (take n (queue_at old.lists flow)))
      old.comparisons new.comparisons
  pub journal : book' ≡ with_drops book moment cause.Overflow (take n (queue_at old.lists flow))

-- The fattest flow loses so many packets at most, with few comparisons for each packet, and the journal records it.
pub record LosesBatch (most moment : ℕ) (old : Held) (book : Book) (new : Held) (book' : Book) : Type 0 where
  pub flow : ℕ
  pub fattest : IsFattest old.queues.lists.queues flow
  pub rest : new
      ≡ record old {
        queues = with_queues old.queues (without_batch most old.queues.lists.queues flow);
        comparisons = new.comparisons;
      }
  pub few_comparisons :
      CountsFew (length old.queues.lists.queues) (length (batch_of most old.queues.lists.queues flow).gone)
      old.comparisons new.comparisons
  pub journal : book' ≡ with_drops book moment cause.Overflow (batch_of most old.queues.lists.queues flow).gone

-- What overflows is dropped, with few comparisons for each packet, and the journal records it.
pub record DropsOverflow (p : ParamFields) (moment : ℕ) (old : Held) (book : Book) (new : Held) (book' : Book)
    : Type 0 where
  pub batches : List Batch
  pub overflow : Overflow p old.queues.lists.queues batches new.queues.lists.queues
  pub rest : new
      ≡ record old { queues = with_queues old.queues new.queues.lists.queues; comparisons = new.comparisons }
  pub few_comparisons :
      CountsFew (length old.queues.lists.queues) (length (packets_of batches)) old.comparisons new.comparisons
  pub journal : book' ≡ with_drops book moment cause.Overflow (packets_of batches)
