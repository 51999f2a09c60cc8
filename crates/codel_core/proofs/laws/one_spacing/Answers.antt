use Rattle.codel_core.proofs.SpacingLemmas.{spacing_is, one_spacing_is}
use Rattle.codel_core.proofs.laws.one_spacing.Goals as goal

pub returns : goal.returns
returns c = record { exists = spacing_is; unique = one_spacing_is }
