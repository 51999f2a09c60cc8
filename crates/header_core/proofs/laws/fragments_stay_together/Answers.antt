use Rattle.header_core.proofs.FragmentLemmas.{fragments_together}
use Rattle.header_core.proofs.laws.fragments_stay_together.Goals as goal

pub returns : goal.returns
returns c = fragments_together
