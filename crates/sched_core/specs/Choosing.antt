use Rattle.packet_core.specs.declared.flow.Seed.{Seed}
use Rattle.packet_core.specs.declared.params.ParamFields.{ParamFields}

-- the choice of flows by those parameters and that seed
pub record Choosing : Type 0 where
  pub params : ParamFields
  pub seed : Seed
