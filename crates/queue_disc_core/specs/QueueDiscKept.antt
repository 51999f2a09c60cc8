-- What holds of a queue disc's fields.
use Rattle.std.specs.Prelude.{◌≡◌, ℕ, ◌+◌, ◌<◌, ◌≤◌, ◌^◌, length, sum_by}
use Rattle.journal_core.specs.Statistics.{statistics}
use Rattle.queue_disc_core.specs.declared.answers.Handle.{Handle}
use Rattle.queue_disc_core.specs.declared.queue_disc.QueueDisc.TheInside.{Inside}
use Rattle.sched_core.specs.Schedulers.{Scheduler}
use Rattle.queue_disc_core.specs.Drops.{causes_of, settled_drops}
use Rattle.queue_disc_core.specs.QueueDiscTotals.{IsFlushedWithin}
use Rattle.queue_disc_core.specs.QueueDiscs.{DiscState, events_of, unread_packets, waiting_packets}

abbrev pub disc_state_of : Inside → DiscState
disc_state_of s = record {
  sched = s.sched;
  unread = s.unread;
  flushed_counts = s.flushed_counts;
  past = s.past;
  renew_after = s.renew_after;
  packets = s.packets;
}

-- Whatever is added up over the accepted packets: it is the same over all places where they may be.
abbrev pub AreBalanced : DiscState → Type 0
AreBalanced s =
    (f : Handle → ℕ) → sum_by f s.packets.accepted
    ≡ sum_by f s.packets.sent + sum_by f s.packets.read + sum_by f s.packets.flushed
    + sum_by f (unread_packets s) + sum_by f (waiting_packets s)

-- No more packets wait than `limit`. No more than `limit` and one more wait or were lost since the last acceptance: the
-- drops before it are settled. And the flows have memory for so many, and no more.
pub record HasMemory (s : Scheduler) : Type 0 where
  pub waits :
      (statistics s.standing.events).accepted
      ≤ (statistics s.standing.events).sent + length (causes_of s.standing.events) + s.params.limit
  pub recent :
      (statistics s.standing.events).accepted
      ≤ (statistics s.standing.events).sent + settled_drops s.standing.events + s.params.limit + 1
  pub held : s.capacity ≡ s.params.limit + 1

-- The drops that weren't read came after the last acceptance; the scheduler's ids count its acceptances; no more was
-- flushed than sent; the statistics of the schedulers before add up, and leave ids; the packets are in balance; and
-- there is memory, of which an enqueue is reserved.
pub record IsSoundDisc (s : DiscState) : Type 0 where
  pub readable : s.unread + settled_drops (events_of s) ≤ length (causes_of (events_of s))
  pub counted : (statistics (events_of s)).accepted ≡ s.sched.standing.state.next_id
  pub flushed_counts : IsFlushedWithin s.flushed_counts (statistics (events_of s))
  pub past : s.past.accepted ≡ s.past.sent + s.past.dropped_codel + s.past.dropped_overflow + s.past.flushed
  pub few : s.past.accepted ≤ 2 ^ 63
  pub ids : length s.packets.accepted ≡ s.past.accepted + s.sched.standing.state.next_id
  pub balanced : AreBalanced s
  pub memory : HasMemory s.sched
  pub reserved : 0 < s.sched.room

-- what holds of a queue disc's fields
abbrev pub IsKeptDisc : Inside → Type 0
IsKeptDisc s = IsSoundDisc (disc_state_of s)
