use Rattle.std.proofs.Common.{◌≡◌, ◌∙◌, ◌+◌, ap, arith, rules, subst}
use Rattle.journal_core.proofs.StepTotals.{given_count}
use Rattle.journal_core.specs.Statistics.{statistics}
use Rattle.journal_core.specs.declared.totals.Totals.{Totals}
use Rattle.sched_core.specs.Engines.{Running}
use Rattle.port_core.specs.Devices.{DeviceState}
use Rattle.port_core.specs.Lanes.{accepted}
use Rattle.run_core.proofs.LaneRunLemmas.{Emptied, emptied_more, given_if, idle_by, none_given}
use Rattle.run_core.proofs.lanes.empty.Goals as goal
use Rattle.run_core.proofs.lanes.empty.Given.{Over}
use Rattle.run_core.proofs.lanes.empty.Goals.{In_ok-dequeue, In_ok-dequeue-2}

-- a dequeue more
more : (g : Over) (c : In_ok-dequeue g) → Emptied c.args.device.now c.args.now (c.loop-packet._packet + given_count c.in_ok-dequeue.field-0) c.dequeue.new.self
more g c =
    emptied_more c.args.device.now c.loop-packet.device c.dequeue.new.self c.args.now c.loop-packet._packet c.in_ok-dequeue.field-0 c.loop-packet.invariant c.in_ok-dequeue.ensures.made
    c.in_ok-dequeue.ensures.steps c.in_ok-dequeue.ensures.rest.0

-- the last one
last : (g : Over) (c : In_ok-dequeue-2 g) → Emptied c.args.device.now c.args.now (c.loop-packet._packet + given_count c.in_ok-dequeue-2.field-0) c.dequeue-2.new.self
last g c =
    emptied_more c.args.device.now c.loop-packet.device c.dequeue-2.new.self c.args.now c.loop-packet._packet c.in_ok-dequeue-2.field-0 c.loop-packet.invariant c.in_ok-dequeue-2.ensures.made
    c.in_ok-dequeue-2.ensures.steps c.in_ok-dequeue-2.ensures.rest.0

pub returns-in_err-dequeue-clause-accepted : goal.returns-in_err-dequeue-clause-accepted
returns-in_err-dequeue-clause-accepted g c lane =
    ap (λ (h : DeviceState). accepted lane h.engine.sched.standing.events) c.in_err-dequeue.ensures.unchanged ∙ c.loop-packet.invariant.accepts lane

pub returns-then-is_none-clause-accepted : goal.returns-then-is_none-clause-accepted
returns-then-is_none-clause-accepted g c = (more g (goal.at.returns-then-is_none-clause-accepted g c).In_ok-dequeue).accepts

pub returns-then-is_none-clause-steps : goal.returns-then-is_none-clause-steps
returns-then-is_none-clause-steps g c = (more g (goal.at.returns-then-is_none-clause-steps g c).In_ok-dequeue).steps

pub loop-packet-preserved : goal.loop-packet-preserved
loop-packet-preserved g c =
    let one : given_count c.in_ok-dequeue.field-0 ≡ 1 = given_if c.in_ok-dequeue.field-0 (λ is. search (rules, is)) in
    subst (λ k. Emptied c.args.device.now c.args.now (c.loop-packet._packet + k) c.dequeue.new.self) one (more g (goal.at.loop-packet-preserved g c).In_ok-dequeue)

pub returns-in_err-dequeue-2-clause-accepted : goal.returns-in_err-dequeue-2-clause-accepted
returns-in_err-dequeue-2-clause-accepted g c lane =
    ap (λ (h : DeviceState). accepted lane h.engine.sched.standing.events) c.in_err-dequeue-2.ensures.unchanged ∙ c.loop-packet.invariant.accepts lane

pub returns-clause-accepted : goal.returns-clause-accepted
returns-clause-accepted g c = (last g (goal.at.returns-clause-accepted g c).In_ok-dequeue-2).accepts

pub returns-clause-steps : goal.returns-clause-steps
returns-clause-steps g c = (last g (goal.at.returns-clause-steps g c).In_ok-dequeue-2).steps

-- everything that was accepted was sent
pub returns-clause-idle : goal.returns-clause-idle
returns-clause-idle g c =
    let e = last g (goal.at.returns-clause-idle g c).In_ok-dequeue-2 in
    let first = c.totals-totals.ensures.value ∙ ap (λ (e : Running). statistics e.sched.standing.events) c.engine.ensures.value in
    let second = c.totals-totals-2.ensures.value ∙ ap (λ (e : Running). statistics e.sched.standing.events) c.engine-2.ensures.value in
    let all = ap (λ (t : Totals). t.accepted) first in
    let sent = ap (λ (t : Totals). t.sent) first in
    let all_then = ap (λ (t : Totals). t.accepted) second in
    let sent_then = ap (λ (t : Totals). t.sent) second in
    let none : given_count c.in_ok-dequeue-2.field-0 ≡ 0 = omega (arith, all, sent, all_then, sent_then, e.all, e.sent, c.totals-totals-2.ensures.balance, c.loop-packet-test.false) in
    idle_by c.loop-packet.device c.dequeue-2.new.self c.args.now c.in_ok-dequeue-2.field-0 c.in_ok-dequeue-2.ensures.made (none_given c.in_ok-dequeue-2.field-0 none)
