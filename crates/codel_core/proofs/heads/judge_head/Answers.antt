use Rattle.std.proofs.Common.{refl}
use Rattle.codel_core.specs.Verdict.{IsAt}
use Rattle.codel_core.proofs.ServeLemmas.{judged_at}
use Rattle.codel_core.proofs.heads.judge_head.Goals as goal

pub returns-clause-first_above : goal.returns-clause-first_above
returns-clause-first_above g c =
    let at : IsAt c.head_of-head.result.now c.behind.result (g.L.Judged.judged c.args.line.now) 0 = record { head_is = c.head_of-head.ensures; bytes = c.behind.ensures } in
    (judged_at c.args.params.now c.args.now {q = g.L.Judged.judged c.args.line.now} {k = 0} at refl c.should_drop.ensures.droppable c.should_drop.ensures.first_above).0
