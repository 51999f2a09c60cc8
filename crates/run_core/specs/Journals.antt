-- The journals of runs by senders that are threads.
use Rattle.std.specs.Prelude.{◌≡◌, ◌≤◌, ◌<◌, ℕ, ◌+◌, ◌-◌, true, false, All, List, [], Option, Some, None, IfSome, Vec, length, map, slice_get, slice_index_or, sum_by, take}
use Rattle.std.specs.Global.{Global}
use Rattle.packet_core.specs.Packets.{PacketParts}
use Rattle.packet_core.specs.declared.flow.Seed.{Seed}
use Rattle.packet_core.specs.declared.params.ParamFields.{ParamFields}
use Rattle.journal_core.specs.Calls.{Gives, Standing}
use Rattle.journal_core.specs.Runs.{IsRunOf}
use Rattle.journal_core.specs.Statistics.{statistics}
use Rattle.journal_core.specs.declared.event.Event.{Event}
use Rattle.journal_core.specs.declared.step.Step.{Step}
use Rattle.journal_core.specs.declared.step.Step.TheVariants.{Dequeue}
use Rattle.fair_core.specs.FairQueues.{FairQueues}
use Rattle.fair_core.specs.FqCodel.{fq_codel}
use Rattle.sched_core.specs.Engines.{Running}
use Rattle.port_core.specs.Devices.{DeviceState, rings_of}
use Rattle.port_core.specs.Lanes.{RingId, Sending, accepted}
use Rattle.port_core.specs.Ports.{Seat, of_lane}
use Rattle.port_core.specs.Senders.{IsSubsequence, packets_told}
use Rattle.port_core.specs.declared.lane_sender.LaneDone.{LaneDone}
use Rattle.port_core.specs.declared.gate.Stop.TheVariants as stop
use Rattle.sender_core.specs.Interleavings.{IsInterleaving}
use Rattle.sender_core.specs.Senders.{calls_of}
use Rattle.trace_core.specs.declared.journal_report.SenderRow.{SenderRow}
use Rattle.run_core.specs.DeviceRuns.{IsDeviceRun, IsIdle, has_close}

-- the row of a sender that made so many calls
abbrev pub sender_row_of : ℕ → Seat → SenderRow
sender_row_of calls seat = record {
  sender = seat.lane;
  submitted = calls;
  accepted = length seat.told;
  left = calls - length seat.told;
}

-- The row is that of a sender with these calls: each was made, some of the packets were accepted, in the order of the
-- calls, and the others are left.
pub record IsSenderRow (sender : ℕ) (calls : List (ℕ × PacketParts)) (events : List Event)
    (row : SenderRow) : Type 0 where
  pub number : row.sender ≡ sender
  pub submitted : row.submitted ≡ length calls
  pub accepted : row.accepted ≡ length (of_lane sender events)
  pub left : row.accepted + row.left ≡ row.submitted
  pub in_order : IsSubsequence (packets_told (of_lane sender events)) (map (λ p. p.1) calls)

-- The events are those of a run with that seed and those parameters, by calls of so many senders for the packets of the
-- steps and of the main thread for the other steps, and the rows are theirs. At its end it is closed, and nothing waits.
-- All that was accepted is some sender's. Where no row of the trace is a close each packet was accepted.
pub record AreLockedJournal (p : ParamFields) (seed : Seed) (senders : ℕ) (steps : List Step) (events : List Event)
    (rows : List SenderRow) : Type 0 where
  pub made : List Step
  pub by_calls : IsInterleaving senders (λ i. calls_of p seed senders i steps) steps made
  pub standing : Standing FairQueues
  pub run : IsRunOf (fq_codel p seed) made standing
  pub journal : standing.events ≡ events
  pub closed : (statistics events).closed ≡ true
  pub none_waits : (statistics events).queued ≡ 0
  pub number : length rows ≡ senders
  pub each : (i : ℕ) (d : SenderRow) → i < senders
      → IsSenderRow i (calls_of p seed senders i steps) events (slice_index_or rows i d)
  pub all : (statistics events).accepted ≡ sum_by (λ row. row.accepted) rows
  pub none_left : has_close steps ≡ false → All (λ row. row.left ≡ 0) rows

-- the packets that went into a lane, by its sender's end
abbrev pub submitted_of : Option Sending → List PacketParts
submitted_of None = []
submitted_of (Some end) = end.submitted

-- What a sender did fits the lane of that number: it came to its end, and that has the lane's ring, and as many packets
-- as were submitted.
pub record FitsLane (rings : List RingId) (lane : ℕ) (done : LaneDone) : Type 0 where
  pub ring : IfSome done.end (λ e. slice_get rings lane ≡ Some e.ring)
  pub submitted : IfSome done.end (λ e. done.submitted ≡ length e.submitted)
  pub ended : done.stop ≡ stop.Done

-- And it submitted all of these packets.
pub record IsSent (rings : List RingId) (lane : ℕ) (packets : List PacketParts) (done : LaneDone) : Type 0 where
  pub fits : FitsLane rings lane done
  pub whole : IfSome done.end (λ e. e.submitted ≡ packets)

-- Monitors are shown the whole journal.
abbrev pub ShowsAll : DeviceState → Type 0
ShowsAll h = h.published.shown ≡ h.engine.sched.standing.events

-- Where the last of so many first rows is a dequeue, monitors are shown the whole journal.
abbrev pub ShowsRow : List Step → ℕ → DeviceState → Type 0
ShowsRow rows many h =
    (row moment : ℕ) → row + 1 ≡ many → slice_get rows row ≡ Some (Dequeue moment) → ShowsAll h

-- The device is the one that it was: the rings of its lanes stay, and what its engine was made with.
pub record IsSameDevice (old new : DeviceState) : Type 0 where
  pub rings : rings_of new.lanes ≡ rings_of old.lanes
  pub number : length new.lanes ≡ length old.lanes
  pub params : new.engine.sched.params ≡ old.engine.sched.params
  pub seed : new.engine.sched.seed ≡ old.engine.sched.seed

-- The row is that of a lane to which those packets were submitted: the first of them were accepted, each once and in
-- their order, and the others are left.
pub record IsLaneRow (lane : ℕ) (packets : List PacketParts) (events : List Event) (row : SenderRow) : Type 0 where
  pub number : row.sender ≡ lane
  pub submitted : row.submitted ≡ length packets
  pub accepted : accepted lane events ≡ take row.accepted packets
  pub left : row.accepted + row.left ≡ row.submitted

-- The rows are those of the lanes to which these packets were submitted, a list for each. All that was accepted came
-- out of one of them.
pub record AreLaneRows (lists : List (Vec PacketParts Global)) (events : List Event) (rows : List SenderRow)
    : Type 0 where
  pub number : length rows ≡ length lists
  pub each : (i : ℕ) (r : SenderRow) (l : Vec PacketParts Global) → i < length lists
      → IsLaneRow i (slice_index_or lists i l).items events (slice_index_or rows i r)
  pub no_other : (i : ℕ) → length lists ≤ i → accepted i events ≡ []

-- The engine is that of a device at its end, which made a run of these steps and to whose lanes these packets were
-- submitted, and the rows are theirs.
pub record IsLanesRunOf (device : DeviceState) (steps : List Step) (lists : List (Vec PacketParts Global)) (engine : Running)
    (told : List SenderRow) : Type 0 where
  pub params : engine.sched.params ≡ device.engine.sched.params
  pub seed : engine.sched.seed ≡ device.engine.sched.seed
  pub rows : AreLaneRows lists engine.sched.standing.events told
  pub run : IsDeviceRun (length lists) steps device.engine.steps engine.steps
  pub idle : (moment : ℕ) × IsIdle moment engine
  pub none_left : has_close device.engine.steps ≡ false → has_close steps ≡ false → All (λ row. row.left ≡ 0) told

-- The events are those of a run with that seed and those parameters, in which a device took the packets of the steps
-- from the lanes of so many senders, by the rows of the trace, and the rows are theirs. At its end it is closed, and its
-- last dequeue found no packet. Where no row of the trace is a close no packet is left. All that was accepted came out
-- of some lane.
pub record AreLanesJournal (p : ParamFields) (seed : Seed) (senders : ℕ) (steps : List Step) (events : List Event)
    (rows : List SenderRow) : Type 0 where
  pub made : List Step
  pub by_rows : IsDeviceRun senders steps [] made
  pub standing : Standing FairQueues
  pub run : IsRunOf (fq_codel p seed) made standing
  pub journal : standing.events ≡ events
  pub closed : (statistics events).closed ≡ true
  pub idle : (moment : ℕ) × (before : Standing FairQueues) × Gives (fq_codel p seed) before moment None standing
  pub none_left : has_close steps ≡ false → All (λ row. row.left ≡ 0) rows
  pub number : length rows ≡ senders
  pub each : (i : ℕ) (d : SenderRow) → i < senders
      → IsLaneRow i (map (λ call. call.1) (calls_of p seed senders i steps)) events (slice_index_or rows i d)
  pub no_other : (i : ℕ) → senders ≤ i → accepted i events ≡ []

-- what is said of the events and the rows of a run by so many senders, by the parameters, the seed and the steps
abbrev pub Journals : Type 1
Journals = ParamFields → Seed → ℕ → List Step → List Event → List SenderRow → Type 0
