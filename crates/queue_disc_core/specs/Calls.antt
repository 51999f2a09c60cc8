-- Lists of calls, and what was handed in and given back in them.
use Rattle.std.specs.Prelude.{◌≡◌, ℕ, ◌⊎◌, List, [], ◌∷◌, map, Option, Some, None}
use Rattle.std.specs.List.{flat_map}
use Rattle.packet_core.specs.Packets.{PacketParts}
use Rattle.journal_core.specs.declared.step.Sent.{Sent}
use Rattle.queue_disc_core.specs.declared.answers.Dequeued.{Dequeued}
use Rattle.queue_disc_core.specs.declared.answers.Dropped.{Dropped}
use Rattle.queue_disc_core.specs.declared.answers.Enqueued.{Enqueued}
use Rattle.queue_disc_core.specs.declared.answers.Handle.{Handle}
use Rattle.queue_disc_core.specs.QueueDiscs.{AreFlushed, AreRead, FlushesAll, IsDiscClosed, IsDiscDequeued, IsEnqueued, DiscState, drop_handle}

-- A call that changed a queue disc, with its arguments and its answer: an enqueue that was accepted, a dequeue, the drops
-- that were read, the packets that were flushed, and the close. One that is refused changes nothing.
pub data Call : Type 0 where
  enqueued : ℕ → PacketParts → Enqueued → Call
  dequeued : ℕ → Dequeued → Call
  read : List Dropped → Call
  flushed : List Handle → Call
  closed : ℕ → Call

-- what the call does
abbrev pub IsCalled : DiscState → Call → DiscState → Type 0
IsCalled old (enqueued moment packet said) new = IsEnqueued old moment packet said new
IsCalled old (dequeued moment said) new = IsDiscDequeued old moment said new
IsCalled old (read drops) new = AreRead old drops new
IsCalled old (flushed packets) new = AreFlushed old packets new ⊎ FlushesAll old packets new
IsCalled old (closed moment) new = IsDiscClosed old moment new

-- Those calls were made, one after another.
abbrev pub AreCalled : DiscState → List Call → DiscState → Type 0
AreCalled old [] new = new ≡ old
AreCalled old (call ∷ calls) new = (mid : DiscState) × IsCalled old call mid × AreCalled mid calls new

-- the packet that the call hands in
abbrev pub handed_in_by : Call → List Handle
handed_in_by (enqueued moment packet said) = record { tag = packet.tag; id = said.id } ∷ []
handed_in_by (dequeued moment said) = []
handed_in_by (read drops) = []
handed_in_by (flushed packets) = []
handed_in_by (closed moment) = []

-- the packet that a dequeue's answer has
abbrev pub answered : Option Sent → List Handle
answered None = []
answered (Some sent) = record { tag = sent.packet.tag; id = sent.id } ∷ []

-- the packets that the call gives back
abbrev pub given_back_by : Call → List Handle
given_back_by (enqueued moment packet said) = []
given_back_by (dequeued moment said) = answered said.sent
given_back_by (read drops) = map drop_handle drops
given_back_by (flushed packets) = packets
given_back_by (closed moment) = []

abbrev pub handed_in : List Call → List Handle
handed_in calls = flat_map handed_in_by calls

abbrev pub given_back : List Call → List Handle
given_back calls = flat_map given_back_by calls
