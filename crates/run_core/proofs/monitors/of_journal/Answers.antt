use Rattle.std.proofs.Common.{arith}
use Rattle.run_core.proofs.SeeingLemmas.{seen_of_front}
use Rattle.run_core.proofs.monitors.of_journal.Goals as goal

pub returns-clause-seen : goal.returns-clause-seen
returns-clause-seen g c = seen_of_front c.args.monitor c.args.receipt.now c.learn.new.self _ c.requires c.learn.ensures.kept c.learn.ensures.learnt (omega arith)
