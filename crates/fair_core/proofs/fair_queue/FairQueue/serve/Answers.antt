use Rattle.std.proofs.Common.{sym}
use Rattle.fair_core.proofs.ServedChains.{at_start, chain_idle, chain_served, one_turn_more}
use Rattle.fair_core.proofs.fair_queue.FairQueue.serve.Goals as goal

pub loop-next-init : goal.loop-next-init
loop-next-init g c = at_start c.args.params.now c.args.now c.args.self.now c.args.journal.now c.head-next.result (rw (← c.quantum-quantum.ensures.value) c.quantum-quantum.ensures.range.0) c.head-next.ensures.sound c.head-next.ensures.bound c.head-next.ensures.value

pub returns-then-is_some-clause-chain : goal.returns-then-is_some-clause-chain
returns-then-is_some-clause-chain g c = chain_served c.args.params.now c.args.now c.args.self.now c.args.journal.now c.loop-next.turns c.loop-next.self c.loop-next.journal c.loop-next.next c.loop-next.invariant c.turn-served.result c.turn-served.new.self c.turn-served.new.journal c.turn-served.ensures (sym (c.if-is_some.ensures {u = tt}))

pub loop-next-smaller : goal.loop-next-smaller
loop-next-smaller g c = (one_turn_more c.args.params.now c.args.now c.args.self.now c.args.journal.now c.loop-next.turns c.loop-next.self c.loop-next.journal c.loop-next.next c.loop-next.invariant c.turn-served.result c.turn-served.new.self c.turn-served.new.journal c.turn-served.ensures c.head-next-in-Some.result (rw (← c.quantum-quantum.ensures.value) c.quantum-quantum.ensures.range.0) (sym (c.if-is_some.ensures {u = tt})) c.head-next-in-Some.ensures.sound c.head-next-in-Some.ensures.value).1

pub loop-next-preserved : goal.loop-next-preserved
loop-next-preserved g c = (one_turn_more c.args.params.now c.args.now c.args.self.now c.args.journal.now c.loop-next.turns c.loop-next.self c.loop-next.journal c.loop-next.next c.loop-next.invariant c.turn-served.result c.turn-served.new.self c.turn-served.new.journal c.turn-served.ensures c.head-next-in-Some.result (rw (← c.quantum-quantum.ensures.value) c.quantum-quantum.ensures.range.0) (sym (c.if-is_some.ensures {u = tt})) c.head-next-in-Some.ensures.sound c.head-next-in-Some.ensures.value).0

pub returns-clause-chain : goal.returns-clause-chain
returns-clause-chain g c = chain_idle c.args.params.now c.args.now c.args.self.now c.args.journal.now c.loop-next.turns c.loop-next.self c.loop-next.journal c.loop-next.next c.loop-next.invariant c.in_default.is
