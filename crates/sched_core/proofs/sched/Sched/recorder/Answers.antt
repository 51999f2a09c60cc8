use Rattle.sched_core.proofs.KeptScheduler.{seen_once}
use Rattle.sched_core.proofs.sched.Sched.recorder.Goals as goal

pub returns-clause-once : goal.returns-clause-once
returns-clause-once g c = rw c.recorder.ensures.lost (seen_once c.self.inside _ c.self.view_is c.self.invariant)
