use Rattle.sched_core.proofs.RunShares.{shares_fairly}
use Rattle.sched_core.proofs.laws.fair_shares.Goals as goal

pub returns : goal.returns
returns g c =
    let sched = c.args.engine.now.sched in
    let some = rw (c.quantum.ensures.value, c.params.ensures) at c.quantum.ensures.range.0 in
    shares_fairly sched.params sched.seed some c.args.engine.now.steps sched.standing c.run_of_steps.ensures c.args.a c.args.b c.args.f c.args.g c.requires.ordered
