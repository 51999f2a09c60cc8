use Rattle.std.specs.Prelude.{◌≡◌, ◌≢◌, ℕ, Bool, true, false, List, [], ◌∷◌, All, Contains, length, map, filter, take, IsSomeAnd, ◌==◌}
use Rattle.std.specs.List.{range_with_len, list_any}
use Rattle.std.specs.List.Sorted.{IsNonDecreasing}
use Rattle.packet_core.specs.Packets.{same_tuple}
use Rattle.packet_core.specs.declared.packet.FiveTuple.{FiveTuple}
use Rattle.packet_core.specs.declared.packet.Waiting.{Waiting}
use Rattle.journal_core.specs.declared.event.Event.{Event}
use Rattle.journal_core.specs.declared.event.Event.TheVariants.{Accepted, Sent, Dropped, Closed}
use Rattle.codel_core.specs.Verdict.{sent_ecn}
use Rattle.journal_core.specs.Disciplines.{MayHave}
use Rattle.journal_core.specs.Happened.{Acceptance, waiting_of, is_closed, moment_of, acceptances, accepted_ids, fate_ids, named, passes, without_fate}

-- IDS IN ORDER

-- The ids that were accepted are 0, 1, 2 and so on, in order.
abbrev pub IdsInOrder : List Event → Type 0
IdsInOrder events = accepted_ids events ≡ range_with_len 0 (length (acceptances events))

-- Each packet was accepted into the flow of its five-tuple.
abbrev pub FlowsAreNamed : (FiveTuple → ℕ) → List Event → Type 0
FlowsAreNamed flow_of events = All (λ a. a.flow ≡ flow_of a.packet.tuple) (acceptances events)

-- Moments never fall.
abbrev pub MomentsRise : List Event → Type 0
MomentsRise events = IsNonDecreasing (map moment_of events)

-- ONE FATE

-- At each point of the journal, each fate so far names an id that was accepted so far.
abbrev pub FatesFollow : List Event → Type 0
FatesFollow events = (point : ℕ) → All (Contains (accepted_ids (take point events))) (fate_ids (take point events))

-- No id stands twice in the list.
abbrev pub AreDistinct : List ℕ → Type 0
AreDistinct [] = Unit {0}
AreDistinct (id ∷ ids) = All (λ other. other ≢ id) ids × AreDistinct ids

-- ORDER KEPT

-- Of the acceptances that pass the test, the first so many have a fate, and the fates came in the order of acceptance.
abbrev pub LeaveInOrder : (Acceptance → Bool) → List Event → Type 0
LeaveInOrder test events =
    let fates = filter (passes test (acceptances events)) (fate_ids events) in
    fates ≡ take (length fates) (map (λ (a : Acceptance). a.id) (filter test (acceptances events)))

-- CLOSED FOR GOOD

-- an entry that may not stand behind a Closed
abbrev pub is_barred : Event → Bool
is_barred (Accepted lane id moment flow packet) = true
is_barred (Sent id moment ecn mark) = false
is_barred (Dropped id moment cause) = false
is_barred (Closed moment) = true

-- Behind a Closed there is no Accepted and no other Closed.
abbrev pub IsClosedForGood : List Event → Type 0
IsClosedForGood [] = Unit {0}
IsClosedForGood (e ∷ events) = (is_closed e ≡ true → list_any is_barred events ≡ false) × IsClosedForGood events

-- HONEST MARKS

-- A packet is sent with the field that it was accepted with, or with CE where it has a mark, and then its sender
-- takes part.
abbrev pub IsHonest : List Acceptance → Event → Type 0
IsHonest accepted (Accepted lane id moment flow packet) = Unit {0}
IsHonest accepted (Sent id moment ecn mark) =
    IsSomeAnd (named accepted id) (λ a. (ecn ≡ sent_ecn mark a.packet.ecn) × MayHave mark a.packet.ecn)
IsHonest accepted (Dropped id moment cause) = Unit {0}
IsHonest accepted (Closed moment) = Unit {0}

-- What holds of a journal, told by its events alone.
pub record JournalLaws (flow_of : FiveTuple → ℕ) (events : List Event) : Type 0 where
  pub ids_in_order : IdsInOrder events
  pub flows_are_named : FlowsAreNamed flow_of events
  pub moments_rise : MomentsRise events
  pub fates_follow : FatesFollow events
  pub one_fate : AreDistinct (fate_ids events)
  pub order_of_tuple : (tuple : FiveTuple) → LeaveInOrder (λ a. same_tuple a.packet.tuple tuple) events
  pub order_of_flow : (flow : ℕ) → LeaveInOrder (λ a. a.flow == flow) events
  pub closed_for_good : IsClosedForGood events
  pub honest_marks : All (IsHonest (acceptances events)) events

-- The packets that wait in a flow are those accepted into it that have no fate, in order, each stamped with the
-- moment of its acceptance.
abbrev pub WaitWithoutFate : (ℕ → List Waiting) → List Event → Type 0
WaitWithoutFate queue_of events =
    (flow : ℕ) → queue_of flow ≡ map waiting_of (filter (λ a. a.flow == flow) (without_fate events))
