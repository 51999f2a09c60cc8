use Rattle.link_core.proofs.LinkRunLaws.{none_early}
use Rattle.link_core.proofs.laws.causal.Goals as goal

pub returns : goal.returns
returns c = λ p seed link arrivals steps made last run. none_early p seed link arrivals steps made last run
