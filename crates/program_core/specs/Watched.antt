-- What monitors saw of a run, and the lines that say so.
use Rattle.std.specs.Prelude.{◌≡◌, ℕ, ◌+◌, List, [], ◌∷◌, ◌++◌, All, Option, codes, length, take}
use Rattle.std.specs.Fmt.{decimal}
use Rattle.std.specs.Io.KnownBytes.{Appends}
use Rattle.std.specs.List.{join_with_byte}
use Rattle.journal_core.specs.declared.event.Event.{Event}
use Rattle.monitor_core.specs.declared.monitor.Seen.{Seen}
use Rattle.run_core.specs.Seeing.{IsSeenOf}
use Rattle.trace_core.specs.Report.{journal_text}
use Rattle.trace_core.specs.declared.journal_report.SenderRow.{SenderRow}

-- how many packets were dropped
abbrev pub seen_drops_of : Seen → ℕ
seen_drops_of seen = seen.totals.dropped_codel + seen.totals.dropped_overflow

-- the line of a monitor: its fields with a space between each two, and a line feed
abbrev pub seen_line : ℕ → Seen → List ℕ
seen_line monitor seen =
    join_with_byte 32
    (codes "monitor" ∷ decimal monitor ∷ decimal seen.events ∷ decimal seen.totals.accepted ∷ decimal seen.totals.sent
    ∷ decimal (seen_drops_of seen) ∷ decimal seen.totals.queued ∷ []) ++ 10 ∷ []

-- The text is a front of each monitor's line, one after the other; the monitors are numbered from that number on. A
-- front is the whole line, unless memory or a write was refused.
abbrev pub AreFronts : ℕ → List Seen → List ℕ → Type 0
AreFronts monitor [] text = text ≡ []
AreFronts monitor (one ∷ seen) text =
    (count : ℕ) × (rest : List ℕ) × (text ≡ take count (seen_line monitor one) ++ rest)
    × AreFronts (monitor + 1) seen rest

-- What these monitors saw was written behind what was there.
pub record TellsLines (seen : List Seen) (old new : Option (List ℕ)) : Type 0 where
  pub text : List ℕ
  pub fronts : AreFronts 0 seen text
  pub told : Appends old new text

-- What so many monitors saw of the journal was written behind what was there.
pub record TellsSeen (monitors : ℕ) (journal : List Event) (old new : Option (List ℕ)) : Type 0 where
  pub seen : List Seen
  pub number : length seen ≡ monitors
  pub each : All (IsSeenOf journal) seen
  pub lines : TellsLines seen old new

-- The same of some journal.
abbrev pub TellsSome : ℕ → Option (List ℕ) → Option (List ℕ) → Type 0
TellsSome monitors old new = (journal : List Event) × TellsSeen monitors journal old new

-- The same of the journal that has that text.
pub record TellsSeenOf (monitors : ℕ) (text : List ℕ) (old new : Option (List ℕ)) : Type 0 where
  pub journal : List Event
  pub rows : List SenderRow
  pub has_text : text ≡ journal_text journal rows
  pub tells : TellsSeen monitors journal old new
