-- When a port is settled.
use Rattle.std.specs.Prelude.{◌≡◌, ◌≢◌, ◌≤◌, ◌<◌, ℕ, true, All, IsSome, List, [], Option, Some, None, get_or, length, slice_get, slice_index_or, take}
use Rattle.packet_core.specs.declared.flow.Seed.{Seed}
use Rattle.packet_core.specs.declared.params.ParamFields.{ParamFields}
use Rattle.journal_core.specs.Happened.{acceptance_of}
use Rattle.journal_core.specs.declared.event.Event.{Event}
use Rattle.sched_core.specs.Schedulers.{Scheduler}
use Rattle.port_core.specs.Ports.{Port, Seat, is_of, of_lane}
use Rattle.port_core.specs.declared.port.Why.{Why}
use Rattle.port_core.specs.declared.port.Why.TheVariants.{NotAll, Differs}
use Rattle.port_core.specs.declared.seat.TheConstants.{MAX_SEATS}

-- no seat has this lane
abbrev pub IsOfNone : List Seat → ℕ → Type 0
IsOfNone seats lane = (k : ℕ) (d : Seat) → k < length seats → (slice_index_or seats k d).lane ≢ lane

-- Each of these seats has a lane of its own, below 65.
pub record HaveLanes (seats : List Seat) : Type 0 where
  pub below : (k : ℕ) (d : Seat) → k < length seats → (slice_index_or seats k d).lane < MAX_SEATS
  pub apart : (i k : ℕ) (d : Seat) → i < k → k < length seats
      → (slice_index_or seats i d).lane ≢ (slice_index_or seats k d).lane

-- Each of these seats has a lane of its own, and was told of all acceptances from it, in order, and of no other. From
-- no other lane was anything accepted.
pub record AreAllTold (events : List Event) (seats : List Seat) : Type 0 where
  pub lanes : HaveLanes seats
  pub each : All (λ s. of_lane s.lane events ≡ s.told) seats
  pub no_other : (lane : ℕ) → IsOfNone seats lane → of_lane lane events ≡ []

-- The scheduler has those parameters and that seed, and its journal has what these seats were told.
pub record Agrees (sched : Scheduler) (params : ParamFields) (seed : Seed) (seats : List Seat) : Type 0 where
  pub same_params : sched.params ≡ params
  pub same_seed : sched.seed ≡ seed
  pub told : AreAllTold sched.standing.events seats

-- why a port with that scheduler and these seats isn't settled, if it isn't
abbrev pub IsWhy : Scheduler → Port → List Seat → Option Why → Type 0
IsWhy sched port seats None = (port.seats ≤ length seats) × Agrees sched port.params port.seed seats
IsWhy sched port seats (Some NotAll) = length seats < port.seats
IsWhy sched port seats (Some Differs) =
    (port.seats ≤ length seats) × (Agrees sched port.params port.seed seats → ⊥)

-- Each of these seats has its place in the table, by its lane, and a place in it is that of the lane's seat.
pub record AreTheirPlaces (seats : List Seat) (places : List ℕ) : Type 0 where
  pub each : (k : ℕ) (d : Seat) → k < length seats
      → ((slice_index_or seats k d).lane < length places) × (get_or places ((slice_index_or seats k d).lane) 0 ≡ k)
  pub no_other : (lane : ℕ) (d : Seat) → lane < length places → get_or places lane 0 < length seats
      → (slice_index_or seats (get_or places lane 0) d).lane ≡ lane

-- Of those events the seat's acceptances are the first of its list, so many as the table has for its lane.
pub record IsMet (s : Seat) (met : List ℕ) (events : List Event) : Type 0 where
  pub begins : of_lane s.lane events ≡ take (get_or met s.lane 0) s.told
  pub within : get_or met s.lane 0 ≤ length s.told

-- And none of those events is an acceptance from a lane without a seat.
pub record AreMet (seats : List Seat) (met : List ℕ) (events : List Event) : Type 0 where
  pub each : (k : ℕ) (d : Seat) → k < length seats → IsMet (slice_index_or seats k d) met events
  pub no_other : (lane : ℕ) → IsOfNone seats lane → of_lane lane events ≡ []

-- There is a seat of this lane, and what it was told of next is this event.
pub record IsToldNext (seats : List Seat) (met : List ℕ) (lane : ℕ) (event : Event) : Type 0 where
  pub place : ℕ
  pub within : place < length seats
  pub own : (d : Seat) → (slice_index_or seats place d).lane ≡ lane
  pub next : (d : Seat) → slice_get (slice_index_or seats place d).told (get_or met lane 0) ≡ Some event

-- An acceptance is what the seat of its lane was told of next.
abbrev pub FitsNext : List Seat → List ℕ → Event → Type 0
FitsNext seats met event = (lane : ℕ) → is_of lane event ≡ true → IsToldNext seats met lane event

-- Two events are one acceptance.
abbrev pub AreOneAcceptance : Event → Event → Type 0
AreOneAcceptance one other = (one ≡ other) × IsSome (acceptance_of one)
