use Rattle.header_core.proofs.MeaningLemmas.{has_one_meaning}
use Rattle.header_core.proofs.laws.one_meaning.Goals as goal

pub returns : goal.returns
returns c = has_one_meaning
