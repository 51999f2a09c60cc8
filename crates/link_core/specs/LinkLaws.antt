-- What holds of a link's runs.
use Rattle.std.specs.Prelude.{◌≡◌, ℕ, ◌+◌, ◌*◌, ◌/◌, ◌≤◌, List, [], ◌∷◌, Option, Some, None, fold, max}
use Rattle.std.specs.Int.{div_ceil}
use Rattle.std.specs.List.{filter_map}
use Rattle.journal_core.specs.declared.event.Event.{Event}
use Rattle.journal_core.specs.declared.event.Event.TheVariants.{Accepted, Sent, Dropped, Closed}
use Rattle.link_core.specs.declared.arrival.Arrival.{Arrival}
use Rattle.link_core.specs.declared.link.LinkFields.{LinkFields}
use Rattle.link_core.specs.Arrivals.{length_at, moment_at}
use Rattle.link_core.specs.Links.{work}

-- A packet has its fate when it came or later.
abbrev pub FollowsArrival : List Arrival → Event → Type 0
FollowsArrival arrivals (Accepted lane id moment flow packet) = Unit {0}
FollowsArrival arrivals (Sent id moment ecn mark) = moment_at arrivals id ≤ moment
FollowsArrival arrivals (Dropped id moment cause) = moment_at arrivals id ≤ moment
FollowsArrival arrivals (Closed moment) = Unit {0}

-- a packet that is sent
pub record Sending : Type 0 where
  pub id : ℕ
  pub moment : ℕ

abbrev pub sending_of : Event → Option Sending
sending_of (Accepted lane id moment flow packet) = None
sending_of (Sent id moment ecn mark) = Some (record { id = id; moment = moment })
sending_of (Dropped id moment cause) = None
sending_of (Closed moment) = None

-- the packets that are sent, in order
abbrev pub sendings : List Event → List Sending
sendings events = filter_map sending_of events

-- how long the wire takes for it, in units of 1/rate microseconds
abbrev pub work_of : LinkFields → List Arrival → Sending → ℕ
work_of link arrivals s = work link (length_at arrivals s.id)

-- The packets are sent one after another: each starts at an exact time, in units of 1/rate microseconds, not before the
-- one before it ends; and its moment is that time, rounded down to whole microseconds.
abbrev pub AreSentInTurn : LinkFields → List Arrival → ℕ → List Sending → Type 0
AreSentInTurn link arrivals from [] = Unit {0}
AreSentInTurn link arrivals from (s ∷ rest) =
    (start : ℕ) × (from ≤ start) × (s.moment ≡ start / link.rate)
    × AreSentInTurn link arrivals (start + work_of link arrivals s) rest

-- When some packets have been sent whole, in units of 1/rate microseconds, by a link that had sent others at so many
-- units. Each starts when the one before it has been sent, or at its own moment, where that is later.
abbrev pub sent_after : LinkFields → List Arrival → ℕ → List Sending → ℕ
sent_after link arrivals units all = fold (λ from s. max from (s.moment * link.rate) + work_of link arrivals s) units all

-- The moment at which the link has sent the last packet of a journal whole, in microseconds, rounded up. It is 0 where it
-- sent none.
abbrev pub end_of : LinkFields → List Arrival → List Event → ℕ
end_of link arrivals events = div_ceil (sent_after link arrivals 0 (sendings events)) link.rate
