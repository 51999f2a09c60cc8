-- What holds of each scheduler.
use Rattle.std.specs.Prelude.{◌≡◌, ◌+◌}
use Rattle.journal_core.specs.JournalLaws.{JournalLaws}
use Rattle.journal_core.specs.Losses.{AreGivenBackOnce, lost_packets}
use Rattle.journal_core.specs.JournalLaws.{WaitWithoutFate}
use Rattle.journal_core.specs.Statistics.{statistics}
use Rattle.flow_core.specs.FlowLists.{waiting_in}
use Rattle.fair_core.specs.FairQueues.{queue_of}
use Rattle.sched_core.specs.Schedulers.{Scheduler, discipline_of, flows_of}

-- its journal has its laws, the packets that wait have no fate, and each accepted packet was sent, was lost or waits
pub record IsLawful (s : Scheduler) : Type 0 where
  pub laws : JournalLaws (discipline_of s).flow_of s.standing.events
  pub waiting : WaitWithoutFate (queue_of (flows_of s)) s.standing.events
  pub once : AreGivenBackOnce (flows_of s).lists.queues (lost_packets s.standing.events) s.standing.events

-- as many packets wait as its statistics tell, and these add up
pub record IsCounted (s : Scheduler) : Type 0 where
  pub queued : (statistics s.standing.events).queued ≡ waiting_in (flows_of s).lists
  pub balance :
      let t = statistics s.standing.events in
      t.accepted ≡ t.sent + t.dropped_codel + t.dropped_overflow + t.queued
