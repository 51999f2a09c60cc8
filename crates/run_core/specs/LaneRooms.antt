-- The room of the lanes of a run.
use Rattle.std.specs.Prelude.{◌≡◌, ◌≤◌, ◌<◌, ◌^◌, ℕ, List, [], ◌∷◌, Vec, length, max, slice_index_or}
use Rattle.std.specs.Global.{Global}
use Rattle.packet_core.specs.Packets.{PacketParts}
use Rattle.port_core.specs.Devices.{AreNewLanes}
use Rattle.port_core.specs.Lanes.{LaneView, Sending}
use Rattle.run_core.specs.declared.senders_fault.SendersFault.{SendersFault}
use Rattle.run_core.specs.declared.senders_fault.SendersFault.TheVariants as senders_fault

-- the room for all packets of the longest of the lists, and for one where all are empty
abbrev pub capacity_for : List (Vec PacketParts Global) → ℕ
capacity_for [] = 1
capacity_for (list ∷ lists) = max (length list.items) (capacity_for lists)

-- The lanes were just opened for these lists: there is one for each, with room for all of its packets.
pub record AreLanesFor (senders : List Sending) (lanes : List LaneView) (lists : List (Vec PacketParts Global))
    : Type 0 where
  pub capacity : ℕ
  pub opened : AreNewLanes senders lanes (length lists) capacity
  pub enough : capacity_for lists ≤ capacity

-- A list has more packets than a lane has room for, those before it don't, and the fault names its lane.
pub record IsTooLong (lists : List (Vec PacketParts Global)) (fault : SendersFault) : Type 0 where
  pub lane : ℕ
  pub there : lane < length lists
  pub is : fault ≡ senders_fault.Lane lane
  pub long : (d : Vec PacketParts Global) → 2 ^ 20 < length (slice_index_or lists lane d).items
  pub first : (i : ℕ) (d : Vec PacketParts Global) → i < lane → length (slice_index_or lists i d).items ≤ 2 ^ 20
