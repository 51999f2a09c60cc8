use Rattle.std.proofs.Common.{◌≤◌, ◌+◌, length, take}
use Rattle.row_core.specs.Streams.{Goes}
use Rattle.trace_core.proofs.trace_run.write_text.Given as goal

abbrev pub invariant-loop-turn : goal.invariant-loop-turn
invariant-loop-turn g l = record {
  turns : l._turn ≤ l.done + l.interruptions.count;
  within : l.done ≤ length l.text;
  wrote : g.S.Sink.Wrote l.initial.sink (take l.done l.text) l.sink;
  few : l.interruptions.count ≤ 1000;
  goes : Goes g.S.Sink.Answered l.initial.sink l.interruptions.count l.sink;
}
