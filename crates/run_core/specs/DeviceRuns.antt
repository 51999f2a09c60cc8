-- The steps of a run through lanes, by the rows of its trace.
use Rattle.std.specs.Prelude.{◌≡◌, ◌≤◌, ℕ, zero, suc, Bool, true, false, List, [], ◌∷◌, ◌++◌, MatchBool, None, if◌then◌else◌, length, map, max, replicate}
use Rattle.packet_core.specs.Packets.{PacketParts}
use Rattle.journal_core.specs.Calls.{Gives, Standing}
use Rattle.fair_core.specs.FairQueues.{FairQueues}
use Rattle.sched_core.specs.Engines.{Running}
use Rattle.sched_core.specs.Schedulers.{discipline_of}
use Rattle.sender_core.specs.Interleavings.{moment_after}
use Rattle.journal_core.specs.declared.step.Step.{Step}
use Rattle.journal_core.specs.declared.step.Step.TheVariants.{Enqueue, Dequeue, Close}

-- the moment of the last step, and 0 where there is none
abbrev pub last_moment : List Step → ℕ
last_moment steps = moment_after 0 steps

-- whether one of the steps is a close, or there was one before
abbrev pub closed_after : Bool → List Step → Bool
closed_after closed [] = closed
closed_after closed (Enqueue moment lane packet ∷ steps) = closed_after closed steps
closed_after closed (Dequeue moment ∷ steps) = closed_after closed steps
closed_after closed (Close moment ∷ steps) = closed_after true steps

-- whether one of the steps is a close
abbrev pub has_close : List Step → Bool
has_close steps = closed_after false steps

-- the steps, and then a close at that moment where there was none
abbrev pub closed_at : ℕ → List Step → List Step
closed_at now steps = if has_close steps then steps else steps ++ Close now ∷ []

-- A pump in the run takes at most so many packets.
abbrev pub IsBurst : ℕ → Type 0
IsBurst packets = packets ≤ 64

-- A lane is emptied: it gives any number of packets.
abbrev pub IsAny : ℕ → Type 0
IsAny packets = Unit {0}

-- The lanes below that number are pumped once each, by rising number: so many packets of each as may be are accepted at
-- that moment.
abbrev pub PumpsLanes : (ℕ → Type 0) → ℕ → List Step → ℕ → List Step → Type 0
PumpsLanes May now old zero new = new ≡ old
PumpsLanes May now old (suc lane) new =
    (mid : List Step) × (packets : List PacketParts) × PumpsLanes May now old lane mid × May (length packets)
    × (new ≡ mid ++ map (Enqueue now lane) packets)

-- So they are, unless there was a close.
abbrev pub PumpsAll : (ℕ → Type 0) → ℕ → List Step → ℕ → List Step → Type 0
PumpsAll May now old lanes new = MatchBool (has_close old) (new ≡ old) (PumpsLanes May now old lanes new)

-- What the device does for a row of the trace. Its moment grows to that of a `deq` or a `close` row, where that is
-- greater. At a `deq` row it pumps all lanes, each by a burst at most, and makes a dequeue; at a `close` row it closes,
-- where there was no close. Both are made at its moment.
abbrev pub ServesRow : ℕ → ℕ → List Step → Step → ℕ → List Step → Type 0
ServesRow lanes now old (Enqueue moment lane packet) later new = (later ≡ now) × (new ≡ old)
ServesRow lanes now old (Dequeue moment) later new =
    (later ≡ max moment now) × (mid : List Step) × PumpsAll IsBurst later old lanes mid
    × (new ≡ mid ++ Dequeue later ∷ [])
ServesRow lanes now old (Close moment) later new = (later ≡ max moment now) × (new ≡ closed_at later old)

-- What it does for the rows, one after the other, from that moment on.
abbrev pub ServesRows : ℕ → ℕ → List Step → List Step → ℕ → List Step → Type 0
ServesRows lanes now old [] later new = (later ≡ now) × (new ≡ old)
ServesRows lanes now old (row ∷ rows) later new =
    (at : ℕ) × (mid : List Step) × ServesRow lanes now old row at mid × ServesRows lanes at mid rows later new

-- The rows are served, from the moment 0 on.
abbrev pub HasServed : ℕ → List Step → List Step → List Step → Type 0
HasServed lanes old rows new = (moment : ℕ) × ServesRows lanes 0 old rows moment new

-- One lane is emptied, at the moment of the last step, unless there was a close.
abbrev pub EmptiesLane : ℕ → List Step → List Step → Type 0
EmptiesLane lane old new =
    MatchBool (has_close old) (new ≡ old)
    ((packets : List PacketParts) × (new ≡ old ++ map (Enqueue (last_moment old) lane) packets))

-- There are dequeues at that moment, after those steps.
abbrev pub Dequeues : ℕ → List Step → List Step → Type 0
Dequeues now old new = (number : ℕ) × (new ≡ old ++ replicate number (Dequeue now))

-- At the moment of the last step there is a close, where there was none, and then there are dequeues.
abbrev pub Finishes : List Step → List Step → Type 0
Finishes old new = Dequeues (last_moment old) (closed_at (last_moment old) old) new

-- The last step was a dequeue at that moment, which found no packet to send.
pub record IsIdle (now : ℕ) (engine : Running) : Type 0 where
  pub before : Standing FairQueues
  pub gives : Gives (discipline_of engine.sched) before now None engine.sched.standing

-- What the device does after the rows: it empties all lanes, by rising number, unless there was a close, and finishes.
pub record EndsRun (lanes : ℕ) (old new : List Step) : Type 0 where
  pub emptied : List Step
  pub empties : PumpsAll IsAny (last_moment old) old lanes emptied
  pub finishes : Finishes emptied new

-- The steps are those of a device with so many lanes in a run of the rows, which began with these.
pub record IsDeviceRun (lanes : ℕ) (rows old new : List Step) : Type 0 where
  pub served : List Step
  pub serves : HasServed lanes old rows served
  pub ends : EndsRun lanes served new
