-- What a recorder that makes packets shows: the events that it was told.
use Rattle.std.specs.Prelude.{◌≡◌, ℕ, ◌+◌, ◌-◌, ◌^◌, ◌<◌, ◌≤◌, ◌⊎◌, Bool, true, false, List, [], ◌∷◌, length}
use Rattle.packet_core.specs.declared.packet.Waiting.{Waiting}
use Rattle.journal_core.specs.MadeFor.{MadeFor, with_numbers}
use Rattle.journal_core.specs.declared.event.Event.{Event}
use Rattle.link_report.specs.declared.gathered.Gathered.TheInside.{Inside}
use Rattle.link_report.specs.Packets.{known_of}

-- The events, the packets sent and the packets lost that it was told, and how many events more it can be told. Then of how many events it
-- makes packets at most, and whether one of these found no memory.
pub record Gathering : Type 0 where
  pub events : List Event
  pub sent : List Waiting
  pub lost : List Waiting
  pub room : ℕ
  pub most : ℕ
  pub is_short : Bool

-- what it was made for: packets of at most so many events
abbrev pub gathering_shape : Gathering → MadeFor
gathering_shape g = with_numbers (g.most ∷ [])

-- It makes the packets of the next event.
pub record MakesPackets (g : Gathering) : Type 0 where
  pub whole : g.is_short ≡ false
  pub few : length g.events < g.most

-- So many events more can be counted in 64 bits.
abbrev pub CanCount : Gathering → ℕ → Type 0
CanCount g more = more ≤ 2 ^ 64 - 1 - length g.events

-- Of how many events it makes packets stays, and an event finds no memory only where its packets are made.
pub record KeepsOn (old new : Gathering) : Type 0 where
  pub most : new.most ≡ old.most
  pub short : new.is_short ≡ true → (old.is_short ≡ true) ⊎ MakesPackets old
  pub still : old.is_short ≡ true → new.is_short ≡ true

abbrev pub gathering_of : Inside → Gathering
gathering_of g = record {
  events = g.told.items;
  sent = g.sent.items;
  lost = g.lost.items;
  room = g.told.room;
  most = g.most;
  is_short = g.is_short;
}

-- The packets are those of the events, where these are few enough and each found memory. The events are counted, and those
-- that may come can be.
pub record IsGathered (g : Inside) : Type 0 where
  pub packets : g.is_short ≡ false → g.count ≤ g.most → g.packets ≡ known_of g.told.items
  pub counted : g.count ≡ length g.told.items
  pub room : g.room ≡ g.told.room
  pub few : g.count + g.room < 2 ^ 64
