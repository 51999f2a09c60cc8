use Rattle.codel_core.proofs.StateRanges.{serves_stays}
use Rattle.codel_core.proofs.codel.Codel.serve.Goals as goal

pub returns-clause-range : goal.returns-clause-range
returns-clause-range g c = rw (← c.self.view_is) (serves_stays c.serve_held.ensures.interval c.serve_held.ensures.served)
