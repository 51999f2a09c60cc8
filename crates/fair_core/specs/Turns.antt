use Rattle.std.specs.Prelude.{◌≡◌, ℕ, ◌+◌, ◌⊎◌, List, [], ◌∷◌, drop, take, slice_get, Option, Some, None, pos, ◌+ℤ◌, ◌-ℤ◌, ◌≤ℤ◌, ◌<ℤ◌}
use Rattle.packet_core.specs.declared.packet.Waiting.{Waiting}
use Rattle.codel_core.specs.declared.served.Mark.{Mark}
use Rattle.codel_core.specs.declared.state.CodelState.{CodelState}
use Rattle.flow_core.specs.FlowLists.{with_queue}
use Rattle.journal_core.specs.Disciplines.{Given, Batch}
use Rattle.fair_core.specs.declared.fair_queue.Head.{Head}
use Rattle.fair_core.specs.FairQueues.{FairQueues, flow_state_at, emptied_lists, head_of, queue_of, to_old, with_flow_state}

-- What a fair scheduler leaves to others: how many bytes a flow may send in its turn; which packets of a flow's queue
-- are dropped when it is served; and which packets are dropped when too much waits. `verdict now queue codel drops mark
-- codel'`: at that moment so many packets are dropped from the head, the next one is given with that mark, and `codel'`
-- is the new state. `overflow queues batches queues'`: after an arrival those batches are dropped.
pub record Policy : Type 1 where
  pub quantum : ℕ
  pub verdict : ℕ → List Waiting → CodelState → ℕ → Mark → CodelState → Type 0
  pub overflow : List (List Waiting) → List Batch → List (List Waiting) → Type 0

-- what a flow that is served drops and gives
pub record Service : Type 0 where
  pub dropped : List Waiting
  pub given : Given

-- What a turn found and did: the flow's credits were used up, or it had no packet, or it was served.
pub data TurnKind : Type 0 where
  used_up : TurnKind
  emptied : TurnKind
  serving : Service → TurnKind

-- a turn that was made: the flow, the list at whose head it stood, and what the turn did
pub record TurnMade : Type 0 where
  pub head : Head
  pub kind : TurnKind

-- A flow's credits are used up: it gets a quantum more, and goes to the end of the list of old flows.
pub record UsesUp (p : Policy) (old : FairQueues) (head : Head) (new : FairQueues) : Type 0 where
  pub credits : (flow_state_at old head.flow).credits ≤ℤ pos 0
  pub leaves : new
      ≡ with_flow_state old (to_old old.lists head) head.flow
      (record (flow_state_at old head.flow) { credits = (flow_state_at old head.flow).credits +ℤ pos p.quantum })

-- A flow has credits and no packet: a new flow goes to the end of the list of old flows, and an old one leaves the
-- lists.
pub record Empties (p : Policy) (now : ℕ) (old : FairQueues) (head : Head) (new : FairQueues) : Type 0 where
  pub credits : pos 0 <ℤ (flow_state_at old head.flow).credits
  pub empty : queue_of old head.flow ≡ []
  pub mark : Mark
  pub codel : CodelState
  pub verdict : p.verdict now [] (flow_state_at old head.flow).codel 0 mark codel
  pub leaves : new
      ≡ with_flow_state old (emptied_lists old.lists head) head.flow (record (flow_state_at old head.flow) { codel = codel })

-- A flow has credits and a packet to give: packets are dropped from its head by the verdict, the next one leaves, and
-- its length is taken from the credits.
pub record Sends (p : Policy) (now : ℕ) (old : FairQueues) (head : Head) (service : Service)
    (new : FairQueues) : Type 0 where
  pub credits : pos 0 <ℤ (flow_state_at old head.flow).credits
  pub drops : ℕ
  pub codel : CodelState
  pub verdict : p.verdict now (queue_of old head.flow) (flow_state_at old head.flow).codel drops service.given.mark codel
  pub dropped : service.dropped ≡ take drops (queue_of old head.flow)
  pub stands : slice_get (queue_of old head.flow) drops ≡ Some service.given.waiting
  pub leaves : new
      ≡ with_flow_state old (with_queue old.lists head.flow (drop (drops + 1) (queue_of old head.flow))) head.flow
      (record { credits = (flow_state_at old head.flow).credits -ℤ pos service.given.waiting.packet.len; codel = codel })

-- what a turn does to the flow at the head, by its kind
abbrev pub Does : Policy → ℕ → FairQueues → Head → TurnKind → FairQueues → Type 0
Does p now old head used_up new = UsesUp p old head new
Does p now old head emptied new = Empties p now old head new
Does p now old head (serving service) new = Sends p now old head service new

-- A turn looks at the flow at the head of the lists (RFC 8290, section 4.2).
pub record Turn (p : Policy) (now : ℕ) (old : FairQueues) (made : TurnMade) (new : FairQueues) : Type 0 where
  pub looks : head_of old ≡ Some made.head
  pub does : Does p now old made.head made.kind new

-- the service of a turn, if it serves
abbrev pub service_by : TurnKind → Option Service
service_by used_up = None
service_by emptied = None
service_by (serving service) = Some service

-- the first service among those of turns, if one serves
abbrev pub first_service : Option Service → Option Service → Option Service
first_service None behind = behind
first_service (Some service) behind = Some service

abbrev pub service_in : List TurnMade → Option Service
service_in [] = None
service_in (made ∷ more) = first_service (service_by made.kind) (service_in more)

-- A serving chain: those turns, one after another. It ends with the first one that serves, or where both lists are
-- empty.
abbrev pub Chain : Policy → ℕ → FairQueues → List TurnMade → FairQueues → Type 0
Chain p now old [] new = (head_of old ≡ None) × (new ≡ old)
Chain p now old (made ∷ more) new =
    ((service : Service) × (service_by made.kind ≡ Some service) × (more ≡ []) × Turn p now old made new)
    ⊎ ((next : FairQueues) × (service_by made.kind ≡ None) × Turn p now old made next × Chain p now next more new)
