-- The walk stands behind extension headers alone, inside the packet.
use Rattle.std.proofs.Common.{ℕ, ◌-◌, ◌≤◌}
use Rattle.header_core.proofs.ChainLemmas.{Walks}
use Rattle.header_core.proofs.chain.end_of_chain.Given as goal

abbrev pub invariant-loop-place : goal.invariant-loop-place
invariant-loop-place l = record {
  walk : (k : ℕ) × Walks l.bytes l.len l.place k;
  within : l.place.at ≤ l.len;
}

abbrev pub decreases-loop-place : goal.decreases-loop-place
decreases-loop-place l = l.len - l.place.at
