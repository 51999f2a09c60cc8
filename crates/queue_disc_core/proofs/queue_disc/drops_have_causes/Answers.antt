use Rattle.queue_disc_core.proofs.queue_disc.drops_have_causes.Goals as goal
use Rattle.queue_disc_core.proofs.DropCounts.{lost_counted}

pub returns : goal.returns
returns c = lost_counted _ c.args.sched.now.standing.events c.journal_laws.ensures.laws
