use Rattle.queue_disc_core.proofs.queue_disc.QueueDisc.open_with.Goals as goal
use Rattle.queue_disc_core.proofs.QueueDiscCalls.{opened}

pub invariant_of-result : goal.invariant_of-result
invariant_of-result c =
    opened c.in_ok-sched.sched c.none.result c.none-2.result c.new.result c.args.renew_after c.args.params c.args.seed c.in_ok-sched.ensures c.none.ensures c.none-2.ensures c.new.ensures
