use Rattle.link_core.proofs.LinkRunLaws.{few_made}
use Rattle.link_core.proofs.laws.few_events.Goals as goal

pub returns : goal.returns
returns c = λ p seed link arrivals steps made last run. few_made p seed link arrivals steps made last run
