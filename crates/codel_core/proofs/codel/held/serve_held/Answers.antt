use Rattle.std.proofs.Common.{rules, Some, ap, refl}
use Rattle.codel_core.proofs.HeldLemmas.{none_held, serves_held}
use Rattle.codel_core.proofs.codel.held.serve_held.Goals as goal

pub returns-in_default-clause-none : goal.returns-in_default-clause-none
returns-in_default-clause-none g c =
    let j = c.judge_heads-mark.ensures.judges in
    (λ none. none_held c.in_default.is c.pull-head.ensures.head c.pull-head.ensures.rest j.decides j.stands.pulls, λ empty. refl)

pub returns-in_default-clause-served : goal.returns-in_default-clause-served
returns-in_default-clause-served g c =
    let j = c.judge_heads-mark.ensures.judges in
    let same = j.stands.pulls.same_line in
    serves_held (search (rules, same)) c.pull-head.ensures.head c.pull-head.ensures.rest c.pull-head.ensures.step j.decides j.stands.pulls j.stands.takes (rw c.in_default.is refl)

pub returns-clause-served : goal.returns-clause-served
returns-clause-served g c =
    let j = c.judge_heads-mark.ensures.judges in
    let same = j.stands.pulls.same_line in
    serves_held (search (rules, same)) c.pull-head.ensures.head c.pull-head.ensures.rest c.pull-head.ensures.step j.decides j.stands.pulls j.stands.takes (rw c.in-Some.is (ap Some c.with_mark.ensures))
