use Rattle.std.proofs.Common.{arith}
use Rattle.monitor_core.proofs.BatchLemmas.{longer}
use Rattle.monitor_core.proofs.shown.Shown.advance.Goals as goal

pub returns-then-events-clause-this : goal.returns-then-events-clause-this
returns-then-events-clause-this g c = rw c.again.ensures (longer c.args.self.now c.args.other.now c.beside.ensures (omega (arith, c.events.ensures, c.events-2.ensures, c.if-events.true)))
