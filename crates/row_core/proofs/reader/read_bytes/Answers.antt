use Rattle.std.proofs.Common.{arith, rules}
use Rattle.std.proofs.KnownBytes.{Consumes-kept, Consumes-trans}
use Rattle.row_core.specs.Streams.{interrupted, moved, none}
use Rattle.row_core.proofs.reader.read_bytes.Goals as goal
use Rattle.row_core.proofs.reader.read_bytes.Goals.{in-Ok+else-count-saturating_sub+else-is_err, in-Err+else-not-retries}

pub loop-turn-init : goal.loop-turn-init
loop-turn-init g c = record {
  turns = omega arith;
  within = search rules;
  consumed = search rules;
  few = omega (arith, c.none-interruptions.ensures);
  goes = rw c.none-interruptions.ensures none;
}

pub loop-turn-preserved : goal.loop-turn-preserved
loop-turn-preserved g c = elim c.match-fill.branch [
  | in-Ok+else-count-saturating_sub+else-is_err w ↦ rw (w.text-is, w.interruptions-is) (record {
    turns = grind arith;
    within = grind arith;
    consumed =
        let more = Consumes-trans _ _ _ _ _ c.loop-turn.invariant.consumed w.in-Ok.ensures.bytes.0 in
        search rules;
    few = c.loop-turn.invariant.few;
    goes = moved _ w.in-Ok.count c.loop-turn.invariant.goes (grind arith) w.in-Ok.ensures.answered;
  })
  | in-Err+else-not-retries w ↦ rw (w.text-is, w.interruptions-is) (record {
    turns = grind arith;
    within = c.loop-turn.invariant.within;
    consumed = Consumes-kept _ _ _ _ c.loop-turn.invariant.consumed w.in-Err.ensures.bytes;
    few = grind arith;
    goes = rw w.if-not-retries.ensures.1 (interrupted _ w.in-Err.why c.loop-turn.invariant.goes w.if-not-retries.ensures.0 w.in-Err.ensures.answered);
  })
]
