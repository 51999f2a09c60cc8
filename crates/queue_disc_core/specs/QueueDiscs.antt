-- A queue disc as its caller sees it, and what its calls do.
use Rattle.std.specs.Prelude.{◌≡◌, ℕ, ◌+◌, ◌-◌, ◌<◌, ◌≤◌, ◌^◌, ◌⊎◌, false, List, [], ◌∷◌, ◌++◌, length, map, drop, slice_get, Option, Some, None, option_map, IfSome}
use Rattle.std.specs.List.{flat_map}
use Rattle.std.specs.List.Sorted.{IsPermutation}
use Rattle.packet_core.specs.Packets.{PacketParts}
use Rattle.packet_core.specs.declared.flow.Seed.{Seed}
use Rattle.packet_core.specs.declared.packet.Waiting.{Waiting}
use Rattle.packet_core.specs.declared.params.ParamFields.{ParamFields}
use Rattle.flow_core.specs.FlowLists.{waiting_in}
use Rattle.journal_core.specs.Losses.{IsOfAccepted, lost_packets}
use Rattle.journal_core.specs.Statistics.{statistics}
use Rattle.journal_core.specs.declared.event.Event.{Event}
use Rattle.journal_core.specs.declared.outcome.Answer.TheVariants as answer
use Rattle.journal_core.specs.declared.step.Sent.{Sent}
use Rattle.journal_core.specs.declared.step.Step.TheVariants.{Close, Enqueue}
use Rattle.journal_core.specs.MadeFor.{for_packets}
use Rattle.sched_core.specs.Schedulers.{IsAdvanced, IsServed, Scheduler, discipline_of, flows_of, new_scheduler_for}
use Rattle.queue_disc_core.specs.declared.answers.Dequeued.{Dequeued}
use Rattle.queue_disc_core.specs.declared.answers.Dropped.{Dropped}
use Rattle.queue_disc_core.specs.declared.answers.Enqueued.{Enqueued}
use Rattle.queue_disc_core.specs.declared.answers.Handle.{Handle}
use Rattle.queue_disc_core.specs.declared.totals.FlushedCounts.{FlushedCounts}
use Rattle.queue_disc_core.specs.declared.totals.QueueDiscTotals.{QueueDiscTotals}
use Rattle.queue_disc_core.specs.Drops.{causes_of}
use Rattle.queue_disc_core.specs.PacketLists.{Packets, no_packets_yet}
use Rattle.queue_disc_core.specs.QueueDiscTotals.{more_flushed, no_totals, nothing_flushed, totals_by}

-- A queue disc as its caller sees it: the scheduler that it goes on with; how many of its drops weren't read, which are the
-- last ones; what of the packets that the scheduler sent was flushed; the statistics of the schedulers before; after how
-- many packets of one scheduler it is renewed; and the packets that went through it.
pub record DiscState : Type 0 where
  pub sched : Scheduler
  pub unread : ℕ
  pub flushed_counts : FlushedCounts
  pub past : QueueDiscTotals
  pub renew_after : ℕ
  pub packets : Packets

-- a scheduler before its first step, with memory for `limit` packets and one more, over a recorder that was made for as
-- many
abbrev pub open_scheduler : ParamFields → Seed → Scheduler
open_scheduler p seed = record (new_scheduler_for p seed (for_packets (p.limit + 1))) {
  room = p.limit + 1;
  capacity = p.limit + 1;
}

-- before the first call
abbrev pub new_disc : ParamFields → Seed → ℕ → DiscState
new_disc p seed renew_after = record {
  sched = open_scheduler p seed;
  unread = 0;
  flushed_counts = nothing_flushed;
  past = no_totals;
  renew_after = renew_after;
  packets = no_packets_yet;
}

-- what became of the scheduler's packets
abbrev pub events_of : DiscState → List Event
events_of s = s.sched.standing.events

-- the packets that the scheduler dropped, in order, each as it was accepted
abbrev pub lost_of : DiscState → List Waiting
lost_of s = lost_packets (events_of s)

-- how many of its drops were read: the first ones
abbrev pub read_of : DiscState → ℕ
read_of s = length (lost_of s) - s.unread

-- how many packets wait
abbrev pub queued_in : DiscState → ℕ
queued_in s = waiting_in (flows_of s.sched).lists

-- the statistics over all schedulers
abbrev pub totals_of : DiscState → QueueDiscTotals
totals_of s = totals_by s.past (statistics (events_of s)) s.flushed_counts

-- what a packet of the scheduler is known by, where so many were accepted before it
abbrev pub handle_of : ℕ → Waiting → Handle
handle_of before w = record { tag = w.packet.tag; id = before + w.id }

abbrev pub sent_handle : ℕ → Sent → Handle
sent_handle before sent = record { tag = sent.packet.tag; id = before + sent.id }

abbrev pub sent_handles : ℕ → Option Sent → List Handle
sent_handles before None = []
sent_handles before (Some sent) = sent_handle before sent ∷ []

-- the packet that a scheduler gives, under its id over all schedulers
abbrev pub renumbered : ℕ → Sent → Sent
renumbered before sent = record sent { id = before + sent.id }

abbrev pub drop_handle : Dropped → Handle
drop_handle d = record { tag = d.tag; id = d.id }

-- the packets whose drops weren't read
abbrev pub unread_packets : DiscState → List Handle
unread_packets s = map (handle_of s.past.accepted) (drop (read_of s) (lost_of s))

-- the packets that wait
abbrev pub waiting_packets : DiscState → List Handle
waiting_packets s = map (handle_of s.past.accepted) (flat_map (λ q. q) (flows_of s.sched).lists.queues)

-- The accepted packets are, in another order, those that were sent, those whose drops were read, those that were
-- flushed, those whose drops weren't read yet, and those that wait. So each is in one of the five places, and there
-- once, and no other packet is in any.
abbrev pub AreGivenBack : DiscState → Type 0
AreGivenBack s =
    IsPermutation s.packets.accepted
    (s.packets.sent ++ s.packets.read ++ s.packets.flushed ++ unread_packets s ++ waiting_packets s)

-- A queue disc is renewed before the packet: its scheduler accepted enough, nothing waits, no drop is unread, it isn't
-- closed, and there are ids for as many packets again.
pub record IsDue (s : DiscState) : Type 0 where
  pub old : s.renew_after ≤ s.sched.standing.state.next_id
  pub idle : queued_in s ≡ 0
  pub read : s.unread ≡ 0
  pub open' : s.sched.standing.state.closed ≡ false
  pub few : s.past.accepted + s.sched.standing.state.next_id ≤ 2 ^ 63

-- A packet may come at that moment: it is in range and not before the last step's, and nothing was closed.
pub record MayCome (s : DiscState) (moment : ℕ) : Type 0 where
  pub later : s.sched.standing.state.last ≤ moment
  pub soon : moment < 2 ^ 60
  pub open' : s.sched.standing.state.closed ≡ false

-- a queue disc with a scheduler as new, of the same parameters and seed: its statistics go on
abbrev pub renewed : DiscState → DiscState
renewed s = record s {
  sched = open_scheduler s.sched.params s.sched.seed;
  flushed_counts = nothing_flushed;
  past = totals_of s;
}

-- a queue disc with the scheduler that it had: memory for a renewal was refused before the packet of that moment
abbrev pub unrenewed : DiscState → ℕ → DiscState
unrenewed s moment = record s { packets = record s.packets { unrenewed = s.packets.unrenewed ++ moment ∷ [] } }

-- A queue disc is ready for a packet of that moment. Where a renewal is due it was renewed, or memory for that was refused.
abbrev pub IsDiscReady : DiscState → ℕ → DiscState → Type 0
IsDiscReady old moment ready =
    ((IsDue old → ⊥) × (ready ≡ old))
    ⊎ (IsDue old × ((ready ≡ renewed old) ⊎ (ready ≡ unrenewed old moment)))

-- A packet is accepted: the scheduler makes the step, and the packets that it drops are there to be read. No other
-- drop was. It takes one of the enqueues that are reserved at most, and another one is reserved. The flows have memory
-- for as many packets as before.
pub record IsDiscAccepted (old : DiscState) (moment : ℕ) (packet : PacketParts) (said : Enqueued) (new : DiscState)
    : Type 0 where
  pub advances : IsAdvanced old.sched (Enqueue moment 0 packet) answer.Accepted new.sched
  pub id : said.id ≡ old.past.accepted + old.sched.standing.state.next_id
  pub flow : said.flow ≡ (discipline_of old.sched).flow_of packet.tuple
  pub read : old.unread ≡ 0
  pub unread : new.unread ≡ said.drops
  pub drops : length (lost_of new) ≡ length (lost_of old) + said.drops
  pub room : old.sched.room - 1 ≤ new.sched.room
  pub reserved : 0 < new.sched.room
  pub capacity : new.sched.capacity ≡ old.sched.capacity
  pub rest : new ≡ record old {
    sched = new.sched;
    unread = new.unread;
    packets = record old.packets { accepted = old.packets.accepted ++ record { tag = packet.tag; id = said.id } ∷ [] };
  }

-- An enqueue is accepted, after a renewal wherever one is due and there is memory for it.
pub record IsEnqueued (old : DiscState) (moment : ℕ) (packet : PacketParts) (said : Enqueued) (new : DiscState)
    : Type 0 where
  pub ready : DiscState
  pub renewal : IsDiscReady old moment ready
  pub accepts : IsDiscAccepted ready moment packet said new

-- A dequeue is made: the scheduler makes the step, and the packets that it drops are there to be read, after those that
-- were. The answer has the packet that the scheduler gives, under its id over all renewals.
pub record IsDiscDequeued (old : DiscState) (moment : ℕ) (said : Dequeued) (new : DiscState) : Type 0 where
  pub sent : Option Sent
  pub serves : IsServed old.sched moment sent new.sched
  pub packet : IfSome sent (IsOfAccepted (events_of old))
  pub told : said.sent ≡ option_map (renumbered old.past.accepted) sent
  pub unread : new.unread ≡ old.unread + said.drops
  pub drops : length (lost_of new) ≡ length (lost_of old) + said.drops
  pub rest : new ≡ record old {
    sched = new.sched;
    unread = new.unread;
    packets = record old.packets { sent = old.packets.sent ++ sent_handles old.past.accepted sent };
  }

-- The drop is the one of that number, from 0, of those of the scheduler: the packet is the lost one of that number, and
-- the cause is that which the drop of that number tells.
pub record IsDropOf (s : DiscState) (n : ℕ) (d : Dropped) : Type 0 where
  pub packet : slice_get (map (handle_of s.past.accepted) (lost_of s)) n ≡ Some (drop_handle d)
  pub cause : slice_get (causes_of (events_of s)) n ≡ Some d.cause

-- The first of the drops that weren't read is read.
pub record IsRead (old : DiscState) (d : Dropped) (new : DiscState) : Type 0 where
  pub drop : IsDropOf old (read_of old) d
  pub unread : old.unread ≡ new.unread + 1
  pub rest : new ≡ record old {
    unread = new.unread;
    packets = record old.packets { read = old.packets.read ++ drop_handle d ∷ [] };
  }

-- Those drops are read, one after another, each the first of those that weren't read.
abbrev pub AreRead : DiscState → List Dropped → DiscState → Type 0
AreRead old [] new = new ≡ old
AreRead old (d ∷ drops) new = (mid : DiscState) × IsRead old d mid × AreRead mid drops new

-- A packet is flushed: the scheduler makes a dequeue at the moment of its last step, which gives the packet, and the
-- packets that CoDel drops on the way are there to be read. All that the scheduler counts of it as sent is counted as flushed.
pub record IsFlushed (old : DiscState) (packet : Handle) (new : DiscState) : Type 0 where
  pub sent : Sent
  pub serves : IsServed old.sched old.sched.standing.state.last (Some sent) new.sched
  pub accepted : IsOfAccepted (events_of old) sent
  pub handle : packet ≡ sent_handle old.past.accepted sent
  pub drops : new.unread + length (lost_of old) ≡ old.unread + length (lost_of new)
  pub flushed_counts : new.flushed_counts ≡ more_flushed old.flushed_counts (statistics (events_of old)) (statistics (events_of new))
  pub rest : new ≡ record old {
    sched = new.sched;
    unread = new.unread;
    flushed_counts = new.flushed_counts;
    packets = record old.packets { flushed = old.packets.flushed ++ packet ∷ [] };
  }

-- A flush finds no packet: a dequeue at the moment of the last step gives none.
pub record IsIdle (old new : DiscState) : Type 0 where
  pub serves : IsServed old.sched old.sched.standing.state.last None new.sched
  pub drops : new.unread + length (lost_of old) ≡ old.unread + length (lost_of new)
  pub flushed_counts : new.flushed_counts ≡ more_flushed old.flushed_counts (statistics (events_of old)) (statistics (events_of new))
  pub rest : new ≡ record old { sched = new.sched; unread = new.unread; flushed_counts = new.flushed_counts }

-- Or it finds that nothing waits.
abbrev pub FindsNone : DiscState → DiscState → Type 0
FindsNone old new = ((queued_in old ≡ 0) × (new ≡ old)) ⊎ IsIdle old new

-- Those packets are flushed, one after another.
abbrev pub AreFlushed : DiscState → List Handle → DiscState → Type 0
AreFlushed old [] new = new ≡ old
AreFlushed old (packet ∷ packets) new = (mid : DiscState) × IsFlushed old packet mid × AreFlushed mid packets new

-- Those packets are flushed, and then a dequeue finds none.
pub record FlushesAll (old : DiscState) (packets : List Handle) (new : DiscState) : Type 0 where
  pub mid : DiscState
  pub flushes : AreFlushed old packets mid
  pub ends : FindsNone mid new

-- So many packets more are flushed, and no packet is sent or accepted.
pub record KeepsSent (old : QueueDiscTotals) (more : ℕ) (new : QueueDiscTotals) : Type 0 where
  pub accepted : new.accepted ≡ old.accepted
  pub sent : new.sent ≡ old.sent
  pub sent_bytes : new.sent_bytes ≡ old.sent_bytes
  pub marked : new.marked ≡ old.marked
  pub threshold_marked : new.threshold_marked ≡ old.threshold_marked
  pub flushed : new.flushed ≡ old.flushed + more

-- A flush takes out that packet, or finds none.
abbrev pub FlushesOne : DiscState → Option Handle → DiscState → Type 0
FlushesOne old None new = IsIdle old new
FlushesOne old (Some packet) new = IsFlushed old packet new

-- how many packets that is
abbrev pub flushed_by : Option Handle → ℕ
flushed_by None = 0
flushed_by (Some packet) = 1

-- The close is made.
pub record IsDiscClosed (old : DiscState) (moment : ℕ) (new : DiscState) : Type 0 where
  pub advances : IsAdvanced old.sched (Close moment) answer.Closed new.sched
  pub room : new.sched.room ≡ old.sched.room
  pub capacity : new.sched.capacity ≡ old.sched.capacity
  pub rest : new ≡ record old { sched = new.sched }
