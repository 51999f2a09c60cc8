use Rattle.std.proofs.Common.{◌≡◌, ◌∙◌, ◌<◌, ◌≤◌, ◌^◌, Vec, Global, ap, arith, below_more, length, max, refl, slice_index_or, subst}
use Rattle.std.proofs.lemmas.List.{get_or_default, take_all}
use Rattle.packet_core.specs.Packets.{PacketParts}
use Rattle.run_core.specs.LaneRooms.{capacity_for}
use Rattle.run_core.proofs.LaneRoomLemmas.{capacity_more, larger}
use Rattle.run_core.proofs.lanes.capacity_of.Goals as goal

pub loop-lane-preserved : goal.loop-lane-preserved
loop-lane-preserved c =
    let lists = c.args.lists.now in
    let k = c.loop-lane.lane in
    let list = c.index-lists-lane.result in
    let within : k < length lists = omega (arith, c.loop-lane-test.true) in
    let more = capacity_more lists k list within c.index-lists-lane.is in
    let here : length list.items ≤ 2 ^ 20 = omega arith in
    let picked : c.max-capacity.result ≡ max c.loop-lane.capacity c.len-packets.result = c.max-capacity.ensures ∙ larger c.loop-lane.capacity c.len-packets.result in
    record {
      some = omega arith;
      most = omega arith;
      so_far = omega (arith, more);
      short = λ i d less.
          below_more (λ j. (e : Vec PacketParts Global) → length (slice_index_or lists j e).items ≤ 2 ^ 20) k (λ j h e. c.loop-lane.invariant.short j e h)
          (λ e. subst (λ (v : Vec PacketParts Global). length v.items ≤ 2 ^ 20) (c.index-lists-lane.is ∙ get_or_default lists k list e within) here) i less d;
    }

pub returns-clause-room : goal.returns-clause-room
returns-clause-room c = c.loop-lane.invariant.so_far ∙ ap capacity_for (take_all c.loop-lane.lane c.args.lists.now (omega (arith, c.loop-lane-test.false)))

pub returns-then-packets-clause-too_long : goal.returns-then-packets-clause-too_long
returns-then-packets-clause-too_long c =
    let lists = c.args.lists.now in
    let k = c.loop-lane.lane in
    let list = c.index-lists-lane.result in
    let within : k < length lists = omega (arith, c.loop-lane-test.true) in
    let here : 2 ^ 20 < length list.items = omega arith in
    record {
      lane = k;
      there = within;
      is = refl;
      long = λ d. subst (λ (v : Vec PacketParts Global). 2 ^ 20 < length v.items) (c.index-lists-lane.is ∙ get_or_default lists k list d within) here;
      first = λ i d less. c.loop-lane.invariant.short i d less;
    }
