-- The packets that a journal names: those accepted, those sent and those lost.
use Rattle.std.specs.Prelude.{◌≡◌, ℕ, List, ◌++◌, map, Option, None, option_map, IsSomeAnd}
use Rattle.std.specs.List.{filter_map, flat_map}
use Rattle.std.specs.List.Sorted.{IsPermutation}
use Rattle.packet_core.specs.declared.packet.Waiting.{Waiting}
use Rattle.codel_core.specs.Verdict.{sent_ecn}
use Rattle.packet_core.specs.declared.packet.Ecn.{Ecn}
use Rattle.journal_core.specs.declared.event.Event.{Event}
use Rattle.journal_core.specs.declared.event.Event.TheVariants as event
use Rattle.journal_core.specs.declared.step.Sent.{Sent}
use Rattle.journal_core.specs.Happened.{Acceptance, acceptances, named, waiting_of}
use Rattle.journal_core.specs.Statistics.{dropped_of, sent_of}

-- how the packet waited that was accepted under the id, if one was
abbrev pub waited_as : List Acceptance → ℕ → Option Waiting
waited_as accepted id = option_map waiting_of (named accepted id)

-- the packets that were accepted under these ids, in the order of the ids, each as it waited
abbrev pub packets_named : List Acceptance → List ℕ → List Waiting
packets_named accepted ids = filter_map (waited_as accepted) ids

-- the packets that were accepted, in order, each as it waits from then on
abbrev pub accepted_packets : List Event → List Waiting
accepted_packets events = map waiting_of (acceptances events)

-- the packets that were sent, in order, each as it was accepted
abbrev pub sent_packets : List Event → List Waiting
sent_packets events = packets_named (acceptances events) (filter_map sent_of events)

-- the packets that were dropped, in order, each as it was accepted
abbrev pub lost_packets : List Event → List Waiting
lost_packets events = packets_named (acceptances events) (filter_map dropped_of events)

-- the packet with another ECN field
abbrev pub with_field : Ecn → Waiting → Waiting
with_field ecn w = record w { packet = record (w.packet) { ecn = ecn } }

-- the packet that an event is the sending of, as it left: as it was accepted, but for the ECN field
abbrev pub left_as : List Acceptance → Event → Option Waiting
left_as accepted (event.Accepted lane id moment flow packet) = None
left_as accepted (event.Sent id moment ecn mark) = option_map (with_field ecn) (waited_as accepted id)
left_as accepted (event.Dropped id moment cause) = None
left_as accepted (event.Closed moment) = None

-- the packets that were sent, in order, each as it left
abbrev pub departed_packets : List Event → List Waiting
departed_packets events = filter_map (left_as (acceptances events)) events

-- The accepted packets are, in another order, those that were sent, those that were lost and those that wait. So each
-- is in one of the three places, and there once, and no other packet is in any.
abbrev pub AreGivenBackOnce : List (List Waiting) → List Waiting → List Event → Type 0
AreGivenBackOnce queues lost events =
    IsPermutation (accepted_packets events) (sent_packets events ++ lost ++ flat_map (λ q. q) queues)

-- What a dequeue answers is the packet that was accepted under its id, but for the ECN field: that is the accepted one
-- too, or CE where the packet has a mark.
abbrev pub IsOfAccepted : List Event → Sent → Type 0
IsOfAccepted events sent =
    IsSomeAnd (named (acceptances events) sent.id)
    (λ a. sent.packet ≡ record a.packet { ecn = sent_ecn sent.mark a.packet.ecn })
