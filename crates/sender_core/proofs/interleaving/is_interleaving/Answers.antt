use Rattle.std.proofs.Common.{◌+◌, arith, drop, refl, subst, take}
use Rattle.std.proofs.lemmas.List.{drop_all, take_all}
use Rattle.sender_core.specs.Interleavings.{Comes, MayCome}
use Rattle.sender_core.proofs.InterleavingLemmas.{comes_none, comes_whole}
use Rattle.sender_core.proofs.MeetingLemmas.{may_start, none_left, step_left, step_met}
use Rattle.sender_core.proofs.interleaving.is_interleaving.Goals as goal

pub loop-step-init : goal.loop-step-init
loop-step-init c = record { comes = comes_none c.args.lists.now c.args.rows.now 64; whole = λ few may. may }

pub loop-step-preserved : goal.loop-step-preserved
loop-step-preserved c =
    let k = c.loop-step.step-index in
    let step = c.step-item.result in
    let walk = c.meet.new.walk in
    record {
      comes = subst (λ l. Comes c.args.lists.now c.args.rows.now l walk.last walk.met walk.row walk.closed) (step_met c.args.steps.now k step c.loop-step-test.true c.step-item.is)
          (c.if-not-meet.ensures.met refl (take k c.args.steps.now) c.loop-step.invariant.comes);
      whole = λ few may.
          (c.if-not-meet.ensures.whole few (drop (k + 1) c.args.steps.now)
          (subst (λ l. MayCome c.args.lists.now c.args.rows.now l c.loop-step.walk.last c.loop-step.walk.met c.loop-step.walk.row c.loop-step.walk.closed)
          (step_left c.args.steps.now k step c.loop-step-test.true c.step-item.is) (c.loop-step.invariant.whole few may))).1;
    }

pub returns-then-not-meet-clause-whole : goal.returns-then-not-meet-clause-whole
returns-then-not-meet-clause-whole c few calls_of are so =
    let k = c.loop-step.step-index in
    let may = c.loop-step.invariant.whole few (may_start c.args.lists.now c.args.rows.now c.args.steps.now 64 calls_of are so) in
    (c.if-not-meet.ensures.whole few (drop (k + 1) c.args.steps.now)
    (subst (λ l. MayCome c.args.lists.now c.args.rows.now l c.loop-step.walk.last c.loop-step.walk.met c.loop-step.walk.row c.loop-step.walk.closed)
    (step_left c.args.steps.now k c.step-item.result c.loop-step-test.true c.step-item.is) may)).0

pub returns-clause-made : goal.returns-clause-made
returns-clause-made c done calls_of are =
    let whole = take_all c.loop-step.step-index c.args.steps.now (omega (arith, c.loop-step-test.false)) in
    comes_whole c.args.lists.now c.args.rows.now c.args.steps.now c.loop-step.walk.last c.loop-step.walk.met c.loop-step.walk.row c.loop-step.walk.closed calls_of
    (subst (λ steps. Comes c.args.lists.now c.args.rows.now steps c.loop-step.walk.last c.loop-step.walk.met c.loop-step.walk.row c.loop-step.walk.closed) whole c.loop-step.invariant.comes)
    (c.is_done.ensures.0 done) are

pub returns-clause-whole : goal.returns-clause-whole
returns-clause-whole c few calls_of are so =
    let may = c.loop-step.invariant.whole few (may_start c.args.lists.now c.args.rows.now c.args.steps.now 64 calls_of are so) in
    let all = drop_all c.loop-step.step-index c.args.steps.now (omega (arith, c.loop-step-test.false)) in
    c.is_done.ensures.1
    (none_left c.args.lists.now c.args.rows.now c.loop-step.walk.last c.loop-step.walk.met c.loop-step.walk.row c.loop-step.walk.closed
    (subst (λ l. MayCome c.args.lists.now c.args.rows.now l c.loop-step.walk.last c.loop-step.walk.met c.loop-step.walk.row c.loop-step.walk.closed) all may))
