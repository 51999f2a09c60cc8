use Rattle.std.specs.Prelude.{◌≡◌, ℕ, ◌<◌, ◌≤◌, ◌+◌, Bool, List, ◌++◌, All, length, map, filter, sum_by, ◌==◌}
use Rattle.std.specs.List.{range_with_len, list_any}
use Rattle.packet_core.specs.declared.packet.FiveTuple.{FiveTuple}
use Rattle.packet_core.specs.declared.packet.Waiting.{Waiting}
use Rattle.journal_core.specs.declared.event.Event.{Event}
use Rattle.journal_core.specs.declared.journal.Counts.{Counts}
use Rattle.journal_core.specs.Happened.{Acceptance, waiting_of, is_closed, moment_of, acceptances, accepted_ids, fate_ids, passes, without_fate}
use Rattle.journal_core.specs.JournalLaws.{FlowsAreNamed, MomentsRise, FatesFollow, AreDistinct, IsClosedForGood, IsHonest}
use Rattle.journal_core.specs.Statistics.{length_of, bytes_named, statistics}

-- One flow's share of a journal: of its acceptances, those that are gone have a fate, in their order, and the
-- rest are the flow's queue.
pub record IsLine (flow : ℕ) (waiting : List Waiting) (accepted : List Acceptance) (fated : List ℕ) : Type 0 where
  pub gone : List Acceptance
  pub rest : List Acceptance
  pub split : filter (λ a. a.flow == flow) accepted ≡ gone ++ rest
  pub fates : filter (passes (λ a. a.flow == flow) accepted) fated ≡ map (λ (a : Acceptance). a.id) gone
  pub queue : waiting ≡ map waiting_of rest

-- What a step keeps true of the journal, the queues by flow, the next id, the last moment and the close: the
-- journal's laws in the form that the next event carries on.
pub record IsHistory (flow_of : FiveTuple → ℕ) (queue_of : ℕ → List Waiting) (events : List Event) (next_id last : ℕ)
    (closed : Bool) : Type 0 where
  pub ids : accepted_ids events ≡ range_with_len 0 next_id
  pub flows : FlowsAreNamed flow_of events
  pub rises : MomentsRise events
  pub past : All (λ moment. moment ≤ last) (map moment_of events)
  pub known : All (λ id. id < next_id) (fate_ids events)
  pub follow : FatesFollow events
  pub one_fate : AreDistinct (fate_ids events)
  pub lines : (flow : ℕ) → IsLine flow (queue_of flow) (acceptances events) (fate_ids events)
  pub close : list_any is_closed events ≡ closed
  pub closed_for_good : IsClosedForGood events
  pub honest : All (IsHonest (acceptances events)) events
  pub left : length (without_fate events) + length (fate_ids events) ≡ next_id
  pub left_bytes : sum_by length_of (without_fate events) + bytes_named (acceptances events) (fate_ids events)
      ≡ sum_by length_of (acceptances events)

-- the counts that run along are the statistics
pub record AreCounts (counts : Counts) (events : List Event) : Type 0 where
  pub accepted : counts.accepted ≡ (statistics events).accepted
  pub accepted_bytes : counts.accepted_bytes ≡ (statistics events).accepted_bytes
  pub sent : counts.sent ≡ (statistics events).sent
  pub sent_bytes : counts.sent_bytes ≡ (statistics events).sent_bytes
  pub dropped_codel : counts.dropped_codel ≡ (statistics events).dropped_codel
  pub dropped_overflow : counts.dropped_overflow ≡ (statistics events).dropped_overflow
  pub dropped_bytes : counts.dropped_bytes ≡ (statistics events).dropped_bytes
  pub marked : counts.marked ≡ (statistics events).marked
  pub threshold_marked : counts.threshold_marked ≡ (statistics events).threshold_marked
  pub fates : counts.sent + counts.dropped_codel + counts.dropped_overflow ≡ length (fate_ids events)
  pub fate_bytes : counts.sent_bytes + counts.dropped_bytes ≡ bytes_named (acceptances events) (fate_ids events)
