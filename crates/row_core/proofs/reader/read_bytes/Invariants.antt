use Rattle.std.proofs.Common.{◌≤◌, ◌+◌, length}
use Rattle.std.specs.Io.KnownBytes.{Consumes}
use Rattle.row_core.specs.Streams.{Goes}
use Rattle.row_core.proofs.reader.read_bytes.Given as goal

abbrev pub invariant-loop-turn : goal.invariant-loop-turn
invariant-loop-turn g l = record {
  turns : l._turn ≤ length l.text.items + l.interruptions.count;
  within : length l.text.items ≤ 134217728;
  consumed : Consumes (g.S.Source.remaining l.initial.source) (g.S.Source.remaining l.source) l.text.items;
  few : l.interruptions.count ≤ 1000;
  goes : Goes g.S.Source.Answered l.initial.source l.interruptions.count l.source;
}
