-- The device that was opened has made no step yet, and it has as many monitors as were asked for.
use Rattle.std.proofs.Common.{◌≡◌, ◌∙◌, [], ap, false, length, subst}
use Rattle.std.proofs.lemmas.Result.{IfOk-weaker}
use Rattle.std.proofs.lemmas.List.{length-replicate}
use Rattle.sched_core.specs.Engines.{Running}
use Rattle.port_core.specs.Devices.{AreNewLanes}
use Rattle.run_core.specs.DeviceRuns.{has_close}
use Rattle.run_core.specs.LaneRooms.{AreLanesFor}
use Rattle.run_core.proofs.lanes.run_in_book.Goals as goal

pub returns-clause-none_left : goal.returns-clause-none_left
returns-clause-none_left g c =
    let open_yet : has_close c.in_ok-opened.opened.device.engine.steps ≡ false = ap (λ (e : Running). has_close e.steps) c.in_ok-opened.ensures.engine in
    IfOk-weaker c.run_opened.result _ _ (λ r left. left open_yet) c.run_opened.ensures.none_left

pub returns-clause-seen : goal.returns-clause-seen
returns-clause-seen g c =
    let as_many : length c.in_ok-opened.opened.monitors.items ≡ c.args.layout.monitors = ap length c.in_ok-opened.ensures.monitors ∙ length-replicate c.args.layout.monitors [] in
    IfOk-weaker c.run_opened.result _ _ (λ r seen. (seen.0 ∙ as_many, seen.1)) c.run_opened.ensures.seen

pub run_opened-requires-clause-lanes : goal.run_opened-requires-clause-lanes
run_opened-requires-clause-lanes g c =
    let senders = c.in_ok-opened.opened.senders.items in
    let lanes = c.in_ok-opened.opened.device.lanes in
    let are : AreLanesFor senders lanes c.args.lists.now = record {
      capacity = c.args.layout.capacity;
      opened = subst (λ n. AreNewLanes senders lanes n c.args.layout.capacity) c.requires.lanes.0 c.in_ok-opened.ensures.lanes;
      enough = c.requires.room;
    } in
    λ κs lives. are
