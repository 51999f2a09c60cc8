use Rattle.std.proofs.Common.{ℕ, ◌∙◌, ◌<◌, Vec, Global, arith, inl, length, refl, rules, slice_index_or, subst}
use Rattle.std.proofs.lemmas.Result.{err_from_is_err_and}
use Rattle.packet_core.specs.Packets.{PacketParts}
use Rattle.port_core.specs.Devices.{KeepsLanes, rings_of}
use Rattle.port_core.specs.declared.lane_sender.LaneDone.{LaneDone}
use Rattle.run_core.specs.DeviceRuns.{EndsRun, HasServed}
use Rattle.run_core.proofs.DeviceRunLemmas.{served_open}
use Rattle.run_core.specs.Journals.{IsSameDevice, IsSent}
use Rattle.run_core.specs.SendersFaults.{IsDeviceFault, IsEndingFault}
use Rattle.sender_core.proofs.SenderLemmas.{member}
use Rattle.sender_core.specs.Senders.{IsHeldUp}
use Rattle.run_core.proofs.LaneRunLemmas.{lane_rows, same_more, sent_each, some_fault}
use Rattle.run_core.proofs.lanes.run_device.Goals as goal
use Rattle.run_core.proofs.lanes.run_device.Goals.{In_ok-device}
use Rattle.run_core.proofs.lanes.run_device.Given.{Over}

-- the device behind its part
same : (g : Over) (c : In_ok-device g) → IsSameDevice c.args.device c.in_ok-device.device
same g c = search rules

-- what it did for the rows
served : (g : Over) (c : In_ok-device g) → HasServed (length c.args.lists.now) c.args.device.engine.steps c.args.steps.now c.in_ok-device.device.engine.steps
served g c =
    let rows : HasServed (length c.args.device.lanes) c.args.device.engine.steps c.args.steps.now c.in_ok-device.device.engine.steps = search rules in
    subst (λ n. HasServed n c.args.device.engine.steps c.args.steps.now c.in_ok-device.device.engine.steps) c.requires.lanes.opened.lanes_number rows

-- no gate held a sender up
held : (g : Over) (c : In_ok-device g) (i : ℕ) (d : LaneDone) → i < length c.args.senders.items → IsHeldUp (λ _. ⊥) (slice_index_or c.in_ok-done.done.items i d).submitted (slice_index_or c.in_ok-done.done.items i d).stop
held g c i d less = c.in_ok-done.ensures.held i d (record {}) less

-- what each sender did
sent : (g : Over) (c : In_ok-device g) (i : ℕ) (d : LaneDone) (l : Vec PacketParts Global) → i < length c.args.lists.now
    → IsSent (rings_of c.in_ok-device.device.lanes) i (slice_index_or c.args.lists.now i l).items (slice_index_or c.in_ok-done.done.items i d)
sent g c = sent_each c.args.senders.items c.args.device c.in_ok-device.device c.args.lists.now c.in_ok-done.done.items c.requires.lanes (same g c) (held g c) c.in_ok-done.ensures.each

pub ended-requires-clause-each : goal.ended-requires-clause-each
ended-requires-clause-each g c i d less =
    let within : i < length c.args.lists.now = omega (arith, less, c.in_ok-done.ensures.number, c.requires.lanes.opened.senders_number) in
    (sent g (goal.at.ended-requires-clause-each g c).In_ok-device i d (member c.args.lists.now i within) within).fits

pub returns-clause-made : goal.returns-clause-made
returns-clause-made g c =
    let at = (goal.at.returns-clause-made g c).In_ok-device in
    let behind = same_more _ _ _ (same g at) c.ended.ensures.same in
    let keeps : KeepsLanes c.ended.new.device.engine.sched.standing.events c.ended.new.device.lanes =
    rw (c.engine.ensures.value, c.publish.ensures.engine, c.publish.ensures.lanes) at c.engine.ensures.lanes in
    rw c.publish.ensures.engine (record {
      params = behind.params;
      seed = behind.seed;
      rows = lane_rows c.args.lists.now _ c.in_ok-done.done.items c.in_ok-rows.rows.items c.ended.new.device (sent g at)
          (c.in_ok-done.ensures.number ∙ c.requires.lanes.opened.senders_number) c.in_ok-rows.ensures.number c.in_ok-rows.ensures.done c.in_ok-rows.ensures.rows
          keeps (behind.number ∙ c.requires.lanes.opened.lanes_number);
      run = record {
        served = c.in_ok-device.device.engine.steps;
        serves = served g at;
        ends = subst (λ n. EndsRun n c.in_ok-device.device.engine.steps c.ended.new.device.engine.steps) ((same g at).number ∙ c.requires.lanes.opened.lanes_number) c.in_ok-rows.ensures.ends;
      };
      idle = c.in_ok-rows.ensures.idle;
      none_left = λ free none. c.in_ok-rows.ensures.none_left
          (served_open (length c.args.lists.now) c.args.device.engine.steps c.args.steps.now c.in_ok-device.device.engine.steps free none (served g at));
    })

pub returns-in_err-publish-clause-fault : goal.returns-in_err-publish-clause-fault
returns-in_err-publish-clause-fault g c =
    let p = err_from_is_err_and c.from_residual-in_err-publish.result c.from_residual-in_err-publish.ensures.1 in
    rw (p.1, p.2) (inl refl)

pub returns-in_err-rows-clause-fault : goal.returns-in_err-rows-clause-fault
returns-in_err-rows-clause-fault g c =
    let p = err_from_is_err_and c.from_residual-in_err-rows.result c.from_residual-in_err-rows.ensures.1 in
    rw (p.1, p.2) (some_fault c.in_ok-done.done.items (length c.args.lists.now) c.in_err-rows.field-0.0 (c.in_ok-done.ensures.number ∙ c.requires.lanes.opened.senders_number) c.in_err-rows.ensures.fault)
