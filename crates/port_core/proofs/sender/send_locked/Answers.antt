use Rattle.std.proofs.Common.{arith, refl, map, ap, ◌+◌, ◌-◌}
use Rattle.port_core.proofs.GateLemmas.{through_more}
use Rattle.port_core.proofs.SenderLemmas.{at_accepted, at_none, at_passed, at_refused, closed_by, closed_soon, refused_row, sends_call, sends_none}
use Rattle.journal_core.specs.declared.step.Step.TheVariants.{Enqueue}
use Rattle.port_core.specs.Senders.{SendsAt, SendsSome}
use Rattle.port_core.proofs.sender.send_locked.Goals as goal
use Rattle.port_core.proofs.sender.send_locked.Goals.{After-enqueue, Joined-enqueue, in-Ok, in-Err+in-ClosedAlready}
use Rattle.port_core.proofs.sender.send_locked.Given.{Over}

pub loop-now-init : goal.loop-now-init
loop-now-init g c = record {
  told = sends_none c.args.seat (map (λ p. p.1) c.args.packets.now);
  moments = at_none c.args.seat c.args.packets.now;
  calls = refl;
  gate = λ call some none. absurd (omega (arith, some, none));
}

-- what the seat was told once a call has answered
called : (g : Over) (c : After-enqueue g) → SendsSome c.args.seat (map (λ p. p.1) c.args.packets.now) (c.loop-now.calls + 1) c.enqueue.new.seat
called g c =
    sends_call c.args.seat c.loop-now.seat c.enqueue.new.seat c.args.packets.now c.loop-now.now-index c.loop-now.calls c.loop-now-item.result c.enqueue.result
    c.loop-now.invariant.calls c.loop-now-test.true c.loop-now-item.is c.enqueue.ensures.told c.enqueue.ensures.unchanged c.loop-now.invariant.told

pub returns-in_default : goal.returns-in_default
returns-in_default g c = record {
  told = called g (goal.at.returns-in_default g c).After-enqueue;
  calls = omega (arith, c.loop-now.invariant.calls, c.loop-now-test.true);
  done = λ e. absurd cc;
  moments = at_refused c.args.seat c.loop-now.seat c.enqueue.new.seat c.args.packets.now c.loop-now.calls (c.loop-now.calls + 1 - 1)
      (c.in-Err.ensures {u = tt}).unchanged (omega arith) c.loop-now.invariant.moments;
  stop = (
    omega arith,
    omega (arith, c.loop-now.invariant.calls, c.loop-now-test.true),
    c.in_default.not-ClosedAlready,
    refused_row c.args.packets.now c.loop-now.now-index c.loop-now.calls c.loop-now-item.result c.in-Err.refusal c.loop-now.invariant.calls c.loop-now-test.true c.loop-now-item.is
        (c.in-Err.ensures {u = tt}).refused,
  );
  gate = through_more (g.G.Gate.LetThrough c.args.gate.now) c.loop-now.calls c.loop-now.invariant.gate (c.if-not-passes.ensures.through refl);
  stalled = λ e. absurd cc;
}

-- a call that was accepted or passed over
answered : (g : Over) (c : Joined-enqueue g) → SendsAt c.args.seat c.args.packets.now (c.loop-now.calls + 1) c.enqueue.new.seat
answered g c = elim c.match-enqueue.branch [
  | in-Ok w ↦ at_accepted c.args.seat c.loop-now.seat c.enqueue.new.seat c.args.packets.now c.loop-now.now-index c.loop-now.calls c.loop-now-item.result w.in-Ok.field-0
      c.loop-now.invariant.calls c.loop-now-test.true c.loop-now-item.is (w.in-Ok.ensures {u = tt}).told (w.in-Ok.ensures {u = tt}).later (w.in-Ok.ensures {u = tt}).refused c.loop-now.invariant.moments
  | in-Err+in-ClosedAlready w ↦ at_passed c.args.seat c.loop-now.seat c.enqueue.new.seat c.args.packets.now c.loop-now.now-index c.loop-now.calls c.loop-now-item.result
      c.loop-now.invariant.calls c.loop-now-test.true c.loop-now-item.is (w.in-Err.ensures {u = tt}).unchanged
      (closed_soon c.loop-now-item.result.0 w.in-Err.refusal w.in-ClosedAlready.is (w.in-Err.ensures {u = tt}).refused)
      (closed_by (λ moment. Enqueue moment c.loop-now.seat.lane c.loop-now-item.result.1) c.loop-now-item.result.0 w.in-Err.refusal w.in-ClosedAlready.is (w.in-Err.ensures {u = tt}).order)
      c.loop-now.invariant.moments
]

pub loop-now-preserved : goal.loop-now-preserved
loop-now-preserved g c = record {
  told = called g (goal.at.loop-now-preserved g c).After-enqueue;
  moments = answered g c;
  calls = ap (λ n. n + 1) c.loop-now.invariant.calls;
  gate = through_more (g.G.Gate.LetThrough c.args.gate.now) c.loop-now.calls c.loop-now.invariant.gate (c.if-not-passes.ensures.through refl);
}
