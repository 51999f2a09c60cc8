use Rattle.sched_core.proofs.KeptScheduler.{seen_laws}
use Rattle.sched_core.proofs.sched.Sched.journal_laws.Goals as goal

pub returns-clause-laws : goal.returns-clause-laws
returns-clause-laws g c = seen_laws c.self.inside _ c.self.view_is c.self.invariant
