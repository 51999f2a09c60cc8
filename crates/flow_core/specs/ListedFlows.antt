-- How the marks and the rings of flow numbers give what callers see, and what they keep.
use Rattle.std.specs.Prelude.{◌≡◌, ◌^◌, ◌<◌, ◌++◌, length}
use Rattle.flow_core.specs.declared.listed_flows.ListedFlows.TheInside.{Inside}
use Rattle.flow_core.specs.Listed.{AreMarked, NewAndOld}
use Rattle.flow_core.specs.Rings.{IsRing, flows_of}

-- both lists as callers see them
abbrev pub lists_of : Inside → NewAndOld
lists_of f = record {
  flows = length f.marks.items;
  new_flows = flows_of f.next.items f.new_flows;
  old_flows = flows_of f.next.items f.old_flows;
}

-- The flows of both lists are those with a mark. Each list is a ring over the numbers beside the flows, and the flows have
-- numbers of 32 bits.
pub record HasLists (f : Inside) : Type 0 where
  pub few : length f.marks.items < 2 ^ 32
  pub size : length f.next.items ≡ length f.marks.items
  pub marked : AreMarked f.marks.items (flows_of f.next.items f.new_flows ++ flows_of f.next.items f.old_flows)
  pub new_ring : IsRing f.next.items f.new_flows (flows_of f.next.items f.new_flows)
  pub old_ring : IsRing f.next.items f.old_flows (flows_of f.next.items f.old_flows)
