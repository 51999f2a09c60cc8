-- A device as callers see it.
use Rattle.std.specs.Prelude.{◌≡◌, ◌≢◌, ◌≤◌, ◌<◌, ◌==◌, ℕ, ◌+◌, ◌^◌, true, false, List, [], ◌∷◌, ◌++◌, Option, Some, None, if◌then◌else◌, length, map, min, nat_lt, slice_index_or}
use mathlib.Core.List.{IsPrefix}
use Rattle.packet_core.specs.Packets.{PacketParts}
use Rattle.journal_core.specs.State.{State, first_of_two, refusal_of}
use Rattle.journal_core.specs.declared.event.Event.{Event}
use Rattle.journal_core.specs.declared.outcome.Answer.TheVariants as answer
use Rattle.journal_core.specs.declared.step.Refusal.{Refusal}
use Rattle.journal_core.specs.declared.step.Refusal.TheVariants.{Exhausted}
use Rattle.journal_core.specs.declared.step.Step.TheVariants.{Close, Enqueue}
use Rattle.monitor_core.specs.Publishing.{Published}
use Rattle.sched_core.specs.Engines.{Running}
use Rattle.sched_core.specs.Schedulers.{ComparesFew, IsAdvanced, Scheduler}
use Rattle.port_core.specs.Lanes.{GivesPackets, LaneView, RingId, Sending, accepted}

-- a device: its engine, its ends of the lanes, in the order of their numbers, and what it published
pub record DeviceState : Type 0 where
  pub engine : Running
  pub lanes : List LaneView
  pub published : Published

-- the part of it that waits for nobody: its engine and its ends of the lanes
pub record Fed : Type 0 where
  pub engine : Running
  pub lanes : List LaneView

abbrev pub fed_of : DeviceState → Fed
fed_of h = record { engine = h.engine; lanes = h.lanes }

-- the rings, in the order of the lanes
abbrev pub rings_of : List LaneView → List RingId
rings_of lanes = map (λ l. l.ring) lanes

-- What came out of each lane is what was accepted from it, in order, each packet once; from no other lane was anything
-- accepted.
pub record KeepsLanes (events : List Event) (lanes : List LaneView) : Type 0 where
  pub each : (i : ℕ) (d : LaneView) → i < length lanes → (slice_index_or lanes i d).received ≡ accepted i events
  pub no_other : (i : ℕ) → length lanes ≤ i → accepted i events ≡ []

-- What is shown, and what stands in the book of what is shown, is a beginning of the journal.
pub record BeginsJournal (p : Published) (events : List Event) : Type 0 where
  pub shown : IsPrefix p.shown events
  pub reached : IsPrefix p.reached events

-- Why a pump of so many packets is refused, if it is, apart from want of memory: as a close is, and then where fewer
-- ids are left.
abbrev pub pump_refusal_of : {Q : Type 0} → State Q → ℕ → ℕ → Option Refusal
pump_refusal_of old now burst =
    first_of_two (refusal_of old (Close now)) (if nat_lt (2 ^ 40) (old.next_id + burst) then Some Exhausted else None)

-- At that moment so many packets more may be accepted.
pub record MayAccept {Q : Type 0} (s : State Q) (now packets : ℕ) : Type 0 where
  pub later : s.last ≤ now
  pub soon : now < 2 ^ 60
  pub open' : s.closed ≡ false
  pub ids : s.next_id + packets ≤ 2 ^ 40

-- The next packet of a lane is accepted at the moment.
pub record TakesFromLane (old : Fed) (lane now : ℕ) (new : Fed) : Type 0 where
  pub packet : PacketParts
  pub made : IsAdvanced old.engine.sched (Enqueue now lane packet) answer.Accepted new.engine.sched
  pub steps : new.engine.steps ≡ old.engine.steps ++ Enqueue now lane packet ∷ []
  pub gives : (d : LaneView)
      → GivesPackets (slice_index_or old.lanes lane d) (packet ∷ []) (slice_index_or new.lanes lane d)
  pub others : (i : ℕ) (d : LaneView) → i ≢ lane → slice_index_or new.lanes i d ≡ slice_index_or old.lanes i d
  pub few_comparisons : ComparesFew old.engine.sched new.engine.sched

-- The last packet of a lane was accepted by a step that compared as few flows as a step does.
pub record LastComparesFew (lane now : ℕ) (new : Scheduler) : Type 0 where
  pub before : Scheduler
  pub packet : PacketParts
  pub made : IsAdvanced before (Enqueue now lane packet) answer.Accepted new
  pub few_comparisons : ComparesFew before new

-- The next packets of a lane are accepted at the moment, one after the other, by a step each. The journal
-- only grows. What the engine says of its last step it says of the last of these, where there is one.
pub record Pumps (old : Fed) (lane now k : ℕ) (new : Fed) : Type 0 where
  pub packets : List PacketParts
  pub count : length packets ≡ k
  pub steps : new.engine.steps ≡ old.engine.steps ++ map (Enqueue now lane) packets
  pub accepted : (from : ℕ) → accepted from new.engine.sched.standing.events
      ≡ accepted from old.engine.sched.standing.events ++ (if lane == from then packets else [])
  pub gives : (d : LaneView)
      → GivesPackets (slice_index_or old.lanes lane d) packets (slice_index_or new.lanes lane d)
  pub others : (i : ℕ) (d : LaneView) → i ≢ lane → slice_index_or new.lanes i d ≡ slice_index_or old.lanes i d
  pub journal : IsPrefix old.engine.sched.standing.events new.engine.sched.standing.events
  pub params : new.engine.sched.params ≡ old.engine.sched.params
  pub seed : new.engine.sched.seed ≡ old.engine.sched.seed
  pub turns : new.engine.sched.turns ≡ old.engine.sched.turns
  pub few_comparisons : 0 < k → LastComparesFew lane now new.engine.sched
  pub no_comparison : k ≡ 0 → new.engine.sched.comparisons ≡ old.engine.sched.comparisons

-- Of a settled lane a pump takes what is left, but no more than its burst.
abbrev pub TakesAllLeft : List LaneView → ℕ → ℕ → ℕ → Type 0
TakesAllLeft lanes lane burst k = (d : LaneView) → (slice_index_or lanes lane d).settled ≡ true
    → k ≡ min burst (length (slice_index_or lanes lane d).known)

-- The two ends of a lane that was just made: they are those of one ring, through which nothing went, and which has room
-- for so many packets.
pub record AreNewEnds (s : Sending) (l : LaneView) (lane capacity : ℕ) : Type 0 where
  pub number : s.lane ≡ lane
  pub ring : s.ring ≡ l.ring
  pub submitted : s.submitted ≡ []
  pub room : s.room ≡ capacity
  pub received : l.received ≡ []
  pub known : l.known ≡ []
  pub settled : l.settled ≡ false

-- The senders and the device's ends of so many lanes that were just made, in the order of their numbers. Each lane has
-- room for so many packets.
pub record AreNewLanes (senders : List Sending) (lanes : List LaneView) (number capacity : ℕ) : Type 0 where
  pub senders_number : length senders ≡ number
  pub lanes_number : length lanes ≡ number
  pub each : (i : ℕ) (s : Sending) (l : LaneView) → i < number
      → AreNewEnds (slice_index_or senders i s) (slice_index_or lanes i l) i capacity
