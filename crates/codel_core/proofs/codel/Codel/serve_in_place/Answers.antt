use Rattle.codel_core.proofs.StateRanges.{serves_stays}
use Rattle.codel_core.proofs.codel.Codel.serve_in_place.Goals as goal

pub returns-clause-range : goal.returns-clause-range
returns-clause-range g c = rw (← c.self.view_is) (serves_stays c.serve_heads.ensures.interval c.serve_heads.ensures.served)
