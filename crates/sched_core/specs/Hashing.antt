use Rattle.std.specs.Prelude.{ℕ}
use Rattle.packet_core.specs.declared.flow.Seed.{Seed}

-- the hash behind that seed, modulo so many flows
pub record Hashing : Type 0 where
  pub flows : ℕ
  pub seed : Seed
