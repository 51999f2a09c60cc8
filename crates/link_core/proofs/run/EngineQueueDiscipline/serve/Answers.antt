use Rattle.link_core.proofs.EngineSteps.{all_within, sent_within_ids}
use Rattle.link_core.proofs.run.EngineQueueDiscipline.serve.Goals as goal

pub returns-clause-served : goal.returns-clause-served
returns-clause-served g c =
    let done = c.in-Ok.ensures in
    let old = c.args.self.now.sched in
    let new = c.dequeue.new.self in
    record {
      gives = done.made.gives;
      steps = done.steps;
      known = all_within old new.sched new.steps c.args.moment c.in-Ok.sent done.made c.run_of_steps.ensures;
      few = sent_within_ids new.sched new.steps c.run_of_steps.ensures;
    }
