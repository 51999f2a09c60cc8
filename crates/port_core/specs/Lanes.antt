-- Lanes as callers see them.
use Rattle.std.specs.Prelude.{◌≡◌, ◌≤◌, ℕ, ◌+◌, Bool, true, List, [], ◌∷◌, ◌++◌}
use Rattle.packet_core.specs.Packets.{PacketParts}
use Rattle.journal_core.specs.declared.event.Event.{Event}
use Rattle.port_core.specs.Ports.{of_lane}
use Rattle.port_core.specs.Senders.{packets_told}
use Rattle.rtrb.specs.Shared.{Names}
use Rattle.rtrb.specs.declared.end.End.{End}
use Rattle.std.specs.declared.alloc.Global.{Global}
use denote.RawPtr.{Ptr}

-- which ring it is
pub record RingId : Type 0 where
  pub words : Ptr
  pub slots : Ptr
  pub names : Names
  pub heap : Global

abbrev pub ring_of : {P : Type 0} → End PacketParts Global P → RingId
ring_of e = record { words = e.words; slots = e.slots; names = e.names; heap = e.heap }

-- A lane's sender, or what is left of it once it has finished: the lane's number, its ring, the packets that were
-- submitted, in order, and how many packets more there is room for at least. Once it has finished there is room for none.
pub record Sending : Type 0 where
  pub lane : ℕ
  pub ring : RingId
  pub submitted : List PacketParts
  pub room : ℕ

-- The packet went into the lane, after those that were submitted before it. It took the room of one packet at most: the
-- device may have made some.
pub record Submits (old : Sending) (packet : PacketParts) (new : Sending) : Type 0 where
  pub stands : new ≡ record old { submitted = old.submitted ++ packet ∷ []; room = new.room }
  pub room : old.room ≤ new.room + 1

-- what is left of a sender that has submitted these packets and finished
abbrev pub finished_after : Sending → List PacketParts → Sending
finished_after s packets = record s { submitted = s.submitted ++ packets; room = 0 }

-- The device's end of a lane: its ring, the packets that came out of it, in order, those that are known to stand in it,
-- and whether these are all that can still come.
pub record LaneView : Type 0 where
  pub ring : RingId
  pub received : List PacketParts
  pub known : List PacketParts
  pub settled : Bool

-- Those packets came out of a lane, one after the other. Of a settled lane they are the first of what was left.
pub record GivesPackets (old : LaneView) (packets : List PacketParts) (new : LaneView) : Type 0 where
  pub ring : new.ring ≡ old.ring
  pub settled : new.settled ≡ old.settled
  pub received : new.received ≡ old.received ++ packets
  pub left : old.settled ≡ true → old.known ≡ packets ++ new.known

-- the packets that were accepted from a lane, in order
abbrev pub accepted : ℕ → List Event → List PacketParts
accepted lane events = packets_told (of_lane lane events)
