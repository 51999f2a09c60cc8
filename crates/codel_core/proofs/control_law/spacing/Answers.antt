use Rattle.codel_core.proofs.SpacingLemmas.{spacing_from_root}
use Rattle.codel_core.proofs.control_law.spacing.Goals as goal

pub returns : goal.returns
returns c = spacing_from_root c.args.interval c.args.count c.narrow_root.result c.requires.count_range.0 c.narrow_root.ensures
