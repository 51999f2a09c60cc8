-- How one slab and the ends of each flow's chain give the queues, and what they keep.
use Rattle.std.specs.Prelude.{◌≡◌, ◌⊎◌, ℕ, zero, suc, ◌+◌, ◌-◌, ◌≤◌, List, [], ◌∷◌, ◌++◌, Option, Some, None, get_or, length, map, sum_by, vec_len}
use Rattle.slab.specs.Slab.{Slab, Updates, get, slab_len, with_value}
use Rattle.packet_core.specs.declared.packet.Waiting.{Waiting}
use Rattle.flow_core.specs.declared.linked_queues.Chain.{Chain}
use Rattle.flow_core.specs.declared.linked_queues.LinkedQueues.TheInside.{Inside}
use Rattle.flow_core.specs.declared.linked_queues.FreeSlots.{FreeSlots}
use Rattle.flow_core.specs.declared.linked_queues.Link.{Link}
use Rattle.codel_core.specs.declared.limits.TheConstants.{MAX_WAITING}
use Rattle.flow_core.specs.declared.limits.TheConstants.{MAX_FLOWS}
use Rattle.flow_core.specs.Queues.{Queues}

-- the packet of a slot, and the key of the one behind it
abbrev pub packet_of : Option Link → List Waiting
packet_of None = []
packet_of (Some link) = link.waiting ∷ []

abbrev pub next_of : Option Link → ℕ
next_of None = 0
next_of (Some link) = link.next

-- so many packets from that key on, each behind the one before it
abbrev pub packets_from : Slab Link → ℕ → ℕ → List Waiting
packets_from slots zero key = []
packets_from slots (suc n) key = packet_of (get slots key) ++ packets_from slots n (next_of (get slots key))

-- the ends of a flow that has none
abbrev pub no_packets : Chain
no_packets = record { first = 0; last = 0; len = 0 }

-- the packets of a flow
abbrev pub packets_of : Slab Link → Chain → List Waiting
packets_of slots chain = packets_from slots chain.len chain.first

-- the queues as callers see them
abbrev pub queues_of : Inside → Queues
queues_of c = record {
  queues = map (packets_of c.slots) c.chains.items;
  capacity = c.capacity;
}

-- a packet and the key of its slot
pub record Placed : Type 0 where
  pub key : ℕ
  pub waiting : Waiting

-- the key of the first one, or the given key where there is none
abbrev pub first_key : List Placed → ℕ → ℕ
first_key [] any = any
first_key (placed ∷ rest) any = placed.key

-- the key of the last one, where one is the first and the others are behind it
abbrev pub last_key : Placed → List Placed → ℕ
last_key placed [] = placed.key
last_key placed (next ∷ rest) = last_key next rest

-- The ends are those of a flow that has these packets. Where it has none, their keys may be any.
abbrev pub HasEnds : List Placed → Chain → Type 0
HasEnds [] ends = ends.len ≡ 0
HasEnds (placed ∷ rest) ends =
    ends ≡ record { first = placed.key; last = last_key placed rest; len = length (placed ∷ rest) }

-- The slot has the packet, and the key of the first one behind it. Where none is behind it, the key may be any.
abbrev pub IsLinked : Slab Link → Placed → List Placed → Type 0
IsLinked slots placed behind =
    (any : ℕ) × (get slots placed.key ≡ Some (record { waiting = placed.waiting; next = first_key behind any }))

-- each one's slot has it, with the key of the one behind it
abbrev pub AreLinked : Slab Link → List Placed → Type 0
AreLinked slots [] = Unit {0}
AreLinked slots (placed ∷ rest) = IsLinked slots placed rest × AreLinked slots rest

-- one of them stands in that slot
abbrev pub HasKey : List Placed → ℕ → Type 0
HasKey [] key = ⊥
HasKey (placed ∷ rest) key = (placed.key ≡ key) ⊎ HasKey rest key

-- no two of them stand in one slot
abbrev pub AreApart : List Placed → Type 0
AreApart [] = Unit {0}
AreApart (placed ∷ rest) = (¬ HasKey rest placed.key) × AreApart rest

-- The ends are those of packets that stand in slots of their own, linked from the first to the last.
pub record IsChain (slots : Slab Link) (ends : Chain) : Type 0 where
  pub placed : List Placed
  pub is : HasEnds placed ends
  pub linked : AreLinked slots placed
  pub once : AreApart placed

-- The free slots, first the one that was left last. Each has the packet that left it, which isn't read, and the key of
-- the one that was left before it.
pub record AreFree (slots : Slab Link) (free : FreeSlots) : Type 0 where
  pub left : List Placed
  pub first : free.first ≡ first_key left free.first
  pub len : free.len ≡ length left
  pub linked : AreLinked slots left
  pub once : AreApart left

-- A link comes into a slot that was empty. No slot becomes free, and none was.
pub record IsInserted (old new : Slab Link) (free after : FreeSlots) (link : Link) (key : ℕ) : Type 0 where
  pub was_vacant : get old key ≡ None
  pub updates : Updates old new key (Some link)
  pub counted : slab_len new ≡ slab_len old + 1
  pub capacity : new.capacity ≡ old.capacity
  pub none : after ≡ free

-- A link comes into the first one of the free slots, and the other ones stay free.
pub record IsReused (old new : Slab Link) (free after : FreeSlots) (link : Link) (key : ℕ) : Type 0 where
  pub was_first : key ≡ free.first
  pub written : new ≡ with_value old free.first link
  pub others : after ≡ record { first = next_of (get old free.first); len = free.len - 1 }

-- Each flow has a chain, and the free slots are one more. No two of them share a slot, and nothing else stands in the
-- slab. There are few enough flows and packets, and the slab has memory for its slots and for as many packets as are
-- said.
pub record AreChained (c : Inside) : Type 0 where
  pub each : (flow : ℕ) → IsChain c.slots (get_or c.chains.items flow no_packets)
  pub apart :
      (flow other key : ℕ) → HasKey (each flow).placed key → HasKey (each other).placed key → flow ≡ other
  pub freed : AreFree c.slots c.free
  pub unused : (flow key : ℕ) → HasKey (each flow).placed key → ¬ HasKey freed.left key
  pub counted : slab_len c.slots ≡ sum_by length (queues_of c).queues + c.free.len
  pub flows : vec_len c.chains ≤ MAX_FLOWS
  pub few : slab_len c.slots ≤ MAX_WAITING
  pub held : slab_len c.slots ≤ c.slots.capacity
  pub fits : c.capacity ≤ c.slots.capacity
