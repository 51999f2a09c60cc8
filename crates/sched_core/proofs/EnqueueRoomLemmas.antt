-- Memory that is taken for enqueues.
use Rattle.std.proofs.Common.{◌≡◌, ℕ, ◌≤◌, refl, ap, ◌∙◌, arith}
use Rattle.journal_core.specs.Books.{Book}
use Rattle.fair_core.specs.HeldQueues.{Held}
use Rattle.sched_core.specs.EnqueueRooms.{HasMemoryFor, TakesMemory}

-- none is taken
pub takes_none : (n : ℕ) (held : Held) (book : Book) → TakesMemory n held book n held book
takes_none n held book = record {
  capacity = held.capacity;
  in_flows = refl;
  more = omega arith;
  events = book.room;
  in_journal = refl;
  enough = λ closes few h. h;
}

-- what flows and a journal take
pub takes_some : (old new : ℕ) (held held' : Held) (book book' : Book) → held'.queues ≡ held.queues → held'.arrived ≡ held.arrived → held'.comparisons ≡ held.comparisons → held.capacity ≤ held'.capacity
    → book'.events ≡ book.events → book'.sent ≡ book.sent → book'.lost ≡ book.lost → book'.counts ≡ book.counts → book'.made_for ≡ book.made_for → ((closes : ℕ) → closes ≤ 1 → HasMemoryFor old closes held book → HasMemoryFor new closes held' book')
    → TakesMemory old held book new held' book'
takes_some old new held held' book book' queues arrived comparisons more events sent lost counts made_for enough = record {
  capacity = held'.capacity;
  in_flows = λ i. record { queues = queues i; arrived = arrived i; capacity = held'.capacity; comparisons = comparisons i };
  more = more;
  events = book'.room;
  in_journal = λ i. record { events = events i; sent = sent i; lost = lost i; counts = counts i; room = book'.room; made_for = made_for i };
  enough = enough;
}

-- once and then again
pub takes_on : {n n' n'' : ℕ} {held held' held'' : Held} {book book' book'' : Book} → TakesMemory n held book n' held' book' → TakesMemory n' held' book' n'' held'' book''
    → TakesMemory n held book n'' held'' book''
takes_on s t = record {
  capacity = t.capacity;
  in_flows = t.in_flows ∙ ap (λ (h : Held). record h { capacity = t.capacity }) s.in_flows;
  more = let mid = ap (λ (h : Held). h.capacity) s.in_flows in omega (arith, s.more, t.more);
  events = t.events;
  in_journal = t.in_journal ∙ ap (λ (b : Book). record b { room = t.events }) s.in_journal;
  enough = λ closes few h. t.enough closes few (s.enough closes few h);
}
