use Rattle.std.proofs.Common.{subst}
use Rattle.queue_disc_core.specs.QueueDiscKept.{disc_state_of}
use Rattle.queue_disc_core.specs.QueueDiscs.{AreGivenBack}
use Rattle.queue_disc_core.proofs.queue_disc.QueueDisc.packets_come_back.Goals as goal
use Rattle.queue_disc_core.proofs.QueueDiscCalls.{come_back}

pub returns : goal.returns
returns c = subst AreGivenBack c.self.view_is (come_back (disc_state_of c.self.inside) c.self.invariant.balanced)
