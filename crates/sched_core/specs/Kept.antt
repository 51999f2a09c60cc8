use Rattle.std.specs.Prelude.{◌≡◌, ℕ, ◌+◌, ◌*◌, ◌^◌, ◌<◌, ◌≤◌, Bool, length, if◌then◌else◌}
use Rattle.packet_core.specs.declared.flow.Seed.{Seed}
use Rattle.packet_core.specs.declared.params.ParamFields.{ParamFields}
use Rattle.flow_core.specs.FlowLists.{waiting_in}
use Rattle.sched_core.specs.declared.sched.Sched.TheInside.{Inside}
use Rattle.journal_core.specs.Books.{Book}
use Rattle.fair_core.specs.Credits.{AreCreditsKept}
use Rattle.fair_core.specs.FairQueues.{FairQueues, queue_of}
use Rattle.fair_core.specs.FqCodel.{fq_codel}
use Rattle.journal_core.specs.Happened.{acceptances}
use Rattle.journal_core.specs.History.{AreCounts, IsHistory}
use Rattle.journal_core.specs.Losses.{departed_packets, lost_packets}
use Rattle.sched_core.specs.Classifiers.{classifier_by}
use Rattle.sched_core.specs.Schedulers.{IsMadeFor, Scheduler}
use Rattle.sched_core.specs.Shares.{longest}
use Rattle.sched_core.specs.EnqueueRooms.{room_of}
use Rattle.journal_core.specs.State.{State}

-- what callers see of a scheduler's fields
abbrev pub scheduler_of : {K : Type 0} → Inside K → Scheduler
scheduler_of s = record {
  params = s.params;
  seed = s.seed;
  standing = record {
    state = record {
      queues = s.fair_queue.queues;
      next_id = s.fair_queue.arrived;
      last = s.last_moment;
      closed = s.is_closed;
    };
    events = s.journal.events;
  };
  turns = s.turns;
  comparisons = s.fair_queue.comparisons;
  room = room_of s.enqueue_room;
  capacity = s.fair_queue.capacity;
  made_for = s.journal.made_for;
}

-- the close that may still come
abbrev pub closes_left : Bool → ℕ
closes_left closed = if closed then 0 else 1

-- What holds of the state, of how many packets its flows have memory for, of the journal, and of how many enqueues
-- there is memory for: the journal has room for each waiting packet's fate, for the close, and for the acceptance and
-- the fate of each of those enqueues; it is a history of the state; its recorder was told of the packets that left as
-- sent, and of the dropped packets as lost, each as it was accepted; and each flow's credits are in the range of the
-- longest packet so far.
pub record IsBookKept (p : ParamFields) (seed : Seed) (s : State FairQueues) (capacity : ℕ) (book : Book)
    (enqueue_room : ℕ) : Type 0 where
  pub some : 0 < p.flows
  pub flows : length s.queues.lists.queues ≡ p.flows
  pub space : waiting_in s.queues.lists + closes_left s.closed + 2 * enqueue_room ≤ book.room
  pub reserved : waiting_in s.queues.lists + enqueue_room ≤ capacity
  pub long : length book.events + waiting_in s.queues.lists + closes_left s.closed ≤ 2 * s.next_id + 1
  pub accepted : book.counts.accepted ≡ s.next_id
  pub few : s.next_id ≤ 2 ^ 40
  pub soon : s.last < 2 ^ 60
  pub history : IsHistory (fq_codel p seed).flow_of (queue_of s.queues) book.events s.next_id s.last s.closed
  pub sent : book.sent ≡ departed_packets book.events
  pub lost : book.lost ≡ lost_packets book.events
  pub counts : AreCounts book.counts book.events
  pub credits : AreCreditsKept p.quantum (longest (acceptances book.events)) s.queues

-- What holds of a scheduler's fields. A recorder that says for how many packets it was made says `limit` and one more at
-- least.
pub record IsSchedulerKept {K : Type 0} (s : Inside K) : Type 0 where
  pub book :
      IsBookKept s.params s.seed ((scheduler_of s).standing.state) s.fair_queue.capacity s.journal
      s.enqueue_room.enqueues
  pub classifier : s.classifier ≡ classifier_by s.params.classify s.params.flows s.seed
  pub made_for : IsMadeFor s.params.limit s.journal.made_for
