use Rattle.std.specs.Prelude.{ℕ, Bool, true, false, List, map, filter, Option, Some, None, find, not, ◌==◌}
use Rattle.std.specs.List.{filter_map, list_any}
use Rattle.std.specs.Option.{option_map_or}
use Rattle.packet_core.specs.Packets.{PacketParts}
use Rattle.packet_core.specs.declared.packet.Waiting.{Waiting}
use Rattle.journal_core.specs.declared.event.Event.{Event}
use Rattle.journal_core.specs.declared.event.Event.TheVariants.{Accepted, Sent, Dropped, Closed}

-- what an Accepted event tells
pub record Acceptance : Type 0 where
  pub id : ℕ
  pub moment : ℕ
  pub lane : ℕ
  pub flow : ℕ
  pub packet : PacketParts

-- how the packet waits from then on
abbrev pub waiting_of : Acceptance → Waiting
waiting_of a = record { id = a.id; stamp = a.moment; packet = a.packet }

abbrev pub acceptance_of : Event → Option Acceptance
acceptance_of (Accepted lane id moment flow packet) =
    Some (record { id = id; moment = moment; lane = lane; flow = flow; packet = packet })
acceptance_of (Sent id moment ecn mark) = None
acceptance_of (Dropped id moment cause) = None
acceptance_of (Closed moment) = None

-- A fate is a Sent or a Dropped: the id that it names.
abbrev pub fate_of : Event → Option ℕ
fate_of (Accepted lane id moment flow packet) = None
fate_of (Sent id moment ecn mark) = Some id
fate_of (Dropped id moment cause) = Some id
fate_of (Closed moment) = None

-- the id of the packet that the event is of; a close is of none
abbrev pub packet_id_of : Event → Option ℕ
packet_id_of (Accepted lane id moment flow packet) = Some id
packet_id_of (Sent id moment ecn mark) = Some id
packet_id_of (Dropped id moment cause) = Some id
packet_id_of (Closed moment) = None

abbrev pub moment_of : Event → ℕ
moment_of (Accepted lane id moment flow packet) = moment
moment_of (Sent id moment ecn mark) = moment
moment_of (Dropped id moment cause) = moment
moment_of (Closed moment) = moment

abbrev pub is_closed : Event → Bool
is_closed (Accepted lane id moment flow packet) = false
is_closed (Sent id moment ecn mark) = false
is_closed (Dropped id moment cause) = false
is_closed (Closed moment) = true

-- the acceptances of a journal, in order
abbrev pub acceptances : List Event → List Acceptance
acceptances events = filter_map acceptance_of events

-- the ids that were accepted, in order
abbrev pub accepted_ids : List Event → List ℕ
accepted_ids events = map (λ (a : Acceptance). a.id) (acceptances events)

-- the ids with a fate, in the order of the fates
abbrev pub fate_ids : List Event → List ℕ
fate_ids events = filter_map fate_of events

-- the acceptance among those that has the id
abbrev pub named : List Acceptance → ℕ → Option Acceptance
named accepted id = find (λ (a : Acceptance). a.id == id) accepted

-- whether the id is among those
abbrev pub is_among : List ℕ → ℕ → Bool
is_among ids id = list_any (λ x. x == id) ids

-- whether the acceptance that has the id passes the test
abbrev pub passes : (Acceptance → Bool) → List Acceptance → ℕ → Bool
passes test accepted id = option_map_or test (named accepted id) false

-- the acceptances without a fate, in order
abbrev pub without_fate : List Event → List Acceptance
without_fate events = filter (λ a. not (is_among (fate_ids events) a.id)) (acceptances events)
