use Rattle.link_core.proofs.EngineSteps.{waiting_rest}
use Rattle.link_core.proofs.run.EngineQueueDiscipline.waiting.Goals as goal

pub returns : goal.returns
returns g c = rw c.queued.ensures.journal (waiting_rest c.args.self.now.sched c.args.self.now.steps c.run_of_steps.ensures)
