use Rattle.std.proofs.Common.{◌≡◌, ◌∙◌}
use Rattle.std.proofs.lemmas.Bool.{ltb-true}
use Rattle.codel_core.proofs.ServeLemmas.{first_above_kept, sends_early, sends_undroppable}
use Rattle.codel_core.proofs.judge.passes.Goals as goal

pub returns-then-not-should_drop-clause-sent : goal.returns-then-not-should_drop-clause-sent
returns-then-not-should_drop-clause-sent c = λ is.
    sends_undroppable c.args.params.now c.args.now c.should_drop.ensures.droppable c.should_drop.ensures.first_above c.should_drop.ensures.rest (cc)

pub returns-then-state-clause-sent : goal.returns-then-state-clause-sent
returns-then-state-clause-sent c = λ early.
    let judged = c.should_drop.ensures.droppable.0 (cc) in
    let same = first_above_kept c.should_drop.ensures.first_above judged.0 judged.1 in
    let kept : c.should_drop.new.state ≡ c.args.state.now = (λ x. record c.should_drop.new.state { first_above = same x }) ∙ c.should_drop.ensures.rest in
    let moment = ltb-true c.args.now c.should_drop.new.state.drop_next early in
    rw kept (sends_early c.args.params.now c.args.now c.args.state.now judged.0 judged.1 (rw kept at c.if-state.true) (rw kept at moment))
