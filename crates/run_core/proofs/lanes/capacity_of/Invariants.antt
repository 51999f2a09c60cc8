use Rattle.std.proofs.Common.{ℕ, ◌≡◌, ◌≤◌, ◌<◌, ◌^◌, Vec, Global, length, slice_index_or, take}
use Rattle.packet_core.specs.Packets.{PacketParts}
use Rattle.port_core.specs.declared.opening.TheConstants.{MAX_CAPACITY}
use Rattle.run_core.specs.LaneRooms.{capacity_for}
use Rattle.run_core.proofs.lanes.capacity_of.Given as goal

abbrev pub invariant-loop-lane : goal.invariant-loop-lane
invariant-loop-lane l = record {
  some : 0 < l.capacity;
  most : l.capacity ≤ MAX_CAPACITY;
  so_far : l.capacity ≡ capacity_for (take l.lane l.lists);
  short : (i : ℕ) (d : Vec PacketParts Global) → i < l.lane → length (slice_index_or l.lists i d).items ≤ 2 ^ 20;
}
