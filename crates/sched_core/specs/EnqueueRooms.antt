-- The memory for enqueues that are still to come.
use Rattle.std.specs.Prelude.{◌≡◌, ℕ, ◌+◌, ◌-◌, ◌*◌, ◌≤◌}
use Rattle.flow_core.specs.FlowLists.{waiting_in}
use Rattle.journal_core.specs.Books.{Book}
use Rattle.fair_core.specs.HeldQueues.{Held}
use Rattle.sched_core.specs.declared.enqueue_room.EnqueueRoom.{EnqueueRoom}

-- how many enqueues are reserved
abbrev pub room_of : EnqueueRoom → ℕ
room_of s = s.enqueues - s.ahead

-- There is memory for so many enqueues: in the flows for their packets beside those that wait, and in the journal for
-- each acceptance with its fate, beside the fate of each packet that waits and so many closes.
pub record HasMemoryFor (enqueues closes : ℕ) (held : Held) (book : Book) : Type 0 where
  pub places : waiting_in held.queues.lists + enqueues ≤ held.capacity
  pub events : waiting_in held.queues.lists + closes + 2 * enqueues ≤ book.room

-- Memory is taken, for more enqueues or for no more, and nothing else changes.
pub record TakesMemory (old : ℕ) (held : Held) (book : Book) (new : ℕ) (held' : Held) (book' : Book) : Type 0 where
  pub capacity : ℕ
  pub in_flows : held' ≡ record held { capacity = capacity }
  pub more : held.capacity ≤ capacity
  pub events : ℕ
  pub in_journal : book' ≡ record book { room = events }
  pub enough : (closes : ℕ) → closes ≤ 1 → HasMemoryFor old closes held book → HasMemoryFor new closes held' book'
