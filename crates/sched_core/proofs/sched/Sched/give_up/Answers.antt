use Rattle.std.proofs.Common.{◌∙◌}
use Rattle.sched_core.proofs.KeptScheduler.{seen_departures}
use Rattle.sched_core.proofs.sched.Sched.give_up.Goals as goal

pub returns-clause-sent : goal.returns-clause-sent
returns-clause-sent g c = c.into_recorder.ensures.sent ∙ seen_departures c.self.inside _ c.self.view_is c.self.invariant
