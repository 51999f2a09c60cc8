use Rattle.std.specs.Prelude.{ℕ, ◌<◌, ◌≤◌, List, get_or, [], length}
use Rattle.packet_core.specs.declared.packet.Waiting.{Waiting}
use Rattle.codel_core.specs.Queue.{bytes_of}

-- the lengths of the packets of that flow, added up
abbrev pub bytes_at : List (List Waiting) → ℕ → ℕ
bytes_at queues flow = bytes_of (get_or queues flow [])

-- The fattest flow: it has the most bytes, and of those that have as many it has the least number. It isn't empty.
pub record IsFattest (queues : List (List Waiting)) (flow : ℕ) : Type 0 where
  pub within : flow < length queues
  pub waits : 0 < bytes_at queues flow
  pub greatest : (other : ℕ) → bytes_at queues other ≤ bytes_at queues flow
  pub least : (other : ℕ) → other < flow → bytes_at queues other < bytes_at queues flow
