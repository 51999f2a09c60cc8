-- Why a run by senders fails.
use Rattle.std.specs.Prelude.{◌≡◌, ◌⊎◌, ◌<◌, ℕ, List, None, length, slice_index_or}
use Rattle.journal_core.specs.declared.event.Event.{Event}
use Rattle.monitor_core.specs.declared.monitor.Seen.{Seen}
use Rattle.port_core.specs.declared.lane_sender.LaneDone.{LaneDone}
use Rattle.run_core.specs.declared.senders_fault.SendersFault.{SendersFault}
use Rattle.run_core.specs.declared.senders_fault.SendersFault.TheVariants as senders_fault

-- A run through a locked port fails so: memory was wanting, or the port didn't settle.
abbrev pub IsLockedRunFault : SendersFault → Type 0
IsLockedRunFault fault = (fault ≡ senders_fault.Memory) ⊎ (fault ≡ senders_fault.Settle)

-- The device's part of a run through the lanes of so many senders fails so: memory was wanting, or one of them has more
-- packets than a lane has room for, or its lane has no end.
abbrev pub IsDeviceFault : ℕ → SendersFault → Type 0
IsDeviceFault senders fault =
    (fault ≡ senders_fault.Memory) ⊎ ((lane : ℕ) × (lane < senders) × (fault ≡ senders_fault.Lane lane))

-- And the whole run, with so many monitors: its device's part does, or one of them read more than the journal has.
abbrev pub IsLanesRunFault : ℕ → ℕ → SendersFault → Type 0
IsLanesRunFault senders monitors fault =
    IsDeviceFault senders fault ⊎ ((monitor : ℕ) × (monitor < monitors) × (fault ≡ senders_fault.Monitor monitor))

-- One of those that read this read more events than the journal has, and the fault names it.
pub record IsAhead (journal : List Event) (read : List Seen) (fault : SendersFault) : Type 0 where
  pub monitor : ℕ
  pub there : monitor < length read
  pub is : fault ≡ senders_fault.Monitor monitor
  pub more : (d : Seen) → length journal < (slice_index_or read monitor d).events

-- What monitors read isn't of the journal, or can't be stored: memory was wanting, or one of them read more.
abbrev pub IsWatchingFault : List Event → List Seen → SendersFault → Type 0
IsWatchingFault journal read fault = (fault ≡ senders_fault.Memory) ⊎ IsAhead journal read fault

-- The lane of that number has no end, and the fault names it.
pub record IsEndless (lane : ℕ) (one : LaneDone) (fault : SendersFault) : Type 0 where
  pub is : fault ≡ senders_fault.Lane lane
  pub endless : one.end ≡ None

-- The end of a run through lanes fails so, where their senders did that: memory was wanting, or a lane has no end.
abbrev pub IsEndingFault : List LaneDone → SendersFault → Type 0
IsEndingFault done fault = (fault ≡ senders_fault.Memory)
    ⊎ ((lane : ℕ) × (lane < length done) × ((d : LaneDone) → IsEndless lane (slice_index_or done lane d) fault))
