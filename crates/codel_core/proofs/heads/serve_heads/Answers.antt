use Rattle.std.proofs.Common.{Some, ap, refl}
use Rattle.codel_core.proofs.ServeLemmas.{serves_judged}
use Rattle.codel_core.proofs.heads.serve_heads.Goals as goal

pub returns-in_default-clause-served : goal.returns-in_default-clause-served
returns-in_default-clause-served g c = serves_judged g.met.L.Pull.pulled_more c.judge_heads-mark.ensures.judges c.pull-pulled.ensures.head c.pull-pulled.ensures.rest c.pull-pulled.ensures.step
    (rw c.in_default.is refl)

pub returns-clause-served : goal.returns-clause-served
returns-clause-served g c = serves_judged g.met.L.Pull.pulled_more c.judge_heads-mark.ensures.judges c.pull-pulled.ensures.head c.pull-pulled.ensures.rest c.pull-pulled.ensures.step
    (rw c.in-Some.is (ap Some c.with_mark.ensures))
