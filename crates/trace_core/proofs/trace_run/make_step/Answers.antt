use Rattle.trace_core.proofs.TraceRunLemmas.{always, other_seen}
use Rattle.trace_core.proofs.trace_run.make_step.Goals as goal

pub returns-in-Dequeue : goal.returns-in-Dequeue
returns-in-Dequeue c = record {
  made = c.make.ensures.made;
  params = always c.make.result c.make.ensures.params;
  seed = always c.make.result c.make.ensures.seed;
  seen = other_seen c.make.result c.args.tally.now c.args.step.now c.args.sched.now c.make.new.self c.in-Dequeue.is c.make.ensures.made c.requires;
}
