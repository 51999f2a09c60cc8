use Rattle.std.proofs.Common.{[], ◌+◌, arith, drop, take}
use Rattle.std.proofs.Math.Seq.{take-add}
use Rattle.std.proofs.lemmas.List.{append-nil, take_rest}
use Rattle.row_core.specs.Streams.{interrupted, moved, none}
use Rattle.trace_core.proofs.trace_run.write_text.Goals as goal
use Rattle.trace_core.proofs.trace_run.write_text.Goals.{in-Ok, in-Err+else-not-retries}

pub loop-turn-init : goal.loop-turn-init
loop-turn-init g c = record {
  turns = omega arith;
  within = omega arith;
  wrote = g.met.S.Sink.wrote_none _;
  few = omega (arith, c.none-interruptions.ensures);
  goes = rw c.none-interruptions.ensures none;
}

pub returns-in-Ok-eq0-clause-front : goal.returns-in-Ok-eq0-clause-front
returns-in-Ok-eq0-clause-front g c =
    let text = c.args.text.now in
    let bytes = rw (take_rest text c.loop-turn.done) at c.in-Ok-eq0.ensures.bytes in
    let wrote = g.met.S.Sink.wrote_more _ _ _ (take c.loop-turn.done text) (take c.in-Ok-eq0.field-0 (drop c.loop-turn.done text)) c.loop-turn.invariant.wrote bytes in
    (c.loop-turn.done + c.in-Ok-eq0.field-0, rw (take-add c.loop-turn.done c.in-Ok-eq0.field-0 text) wrote)

pub returns-then-not-retries-clause-front : goal.returns-then-not-retries-clause-front
returns-then-not-retries-clause-front g c =
    let front = take c.loop-turn.done c.args.text.now in
    let wrote = g.met.S.Sink.wrote_more _ _ _ front [] c.loop-turn.invariant.wrote c.in-Err.ensures.nothing in
    (c.loop-turn.done, rw (append-nil front) at wrote)

pub loop-turn-preserved : goal.loop-turn-preserved
loop-turn-preserved g c =
    let text = c.args.text.now in
    let front = take c.loop-turn.done text in
    elim c.match-put.branch [
      | in-Ok w ↦
          let bytes = rw (take_rest text c.loop-turn.done) at w.in-Ok.ensures.bytes in
          let wrote = g.met.S.Sink.wrote_more _ _ _ front (take w.in-Ok.count (drop c.loop-turn.done text)) c.loop-turn.invariant.wrote bytes in
          rw (w.done-is, w.interruptions-is) (record {
            turns = grind arith;
            within = grind arith;
            wrote = rw (take-add c.loop-turn.done w.in-Ok.count text) wrote;
            few = c.loop-turn.invariant.few;
            goes = moved _ w.in-Ok.count c.loop-turn.invariant.goes (grind arith) w.in-Ok.ensures.answered;
          })
      | in-Err+else-not-retries w ↦
          let wrote = g.met.S.Sink.wrote_more _ _ _ front [] c.loop-turn.invariant.wrote w.in-Err.ensures.nothing in
          rw (w.done-is, w.interruptions-is) (record {
            turns = grind arith;
            within = c.loop-turn.invariant.within;
            wrote = rw (append-nil front) at wrote;
            few = grind arith;
            goes = rw w.if-not-retries.ensures.1 (interrupted _ w.in-Err.why c.loop-turn.invariant.goes w.if-not-retries.ensures.0 w.in-Err.ensures.answered);
          })
    ]
