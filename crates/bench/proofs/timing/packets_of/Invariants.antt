use Rattle.std.proofs.Common.{◌≡◌, vec_len}
use Rattle.bench.specs.Traffic.{GoInTurn}
use Rattle.bench.proofs.timing.packets_of.Given as goal

-- so many packets are made, to the flows in turn
abbrev pub invariant-loop-flow : goal.invariant-loop-flow
invariant-loop-flow l = record {
  count : vec_len l.packets ≡ l.flow;
  each : GoInTurn l.workload.ecn l.packets.items;
}
