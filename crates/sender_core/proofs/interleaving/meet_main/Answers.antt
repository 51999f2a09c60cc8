use Rattle.std.proofs.Common.{refl, subst, sym}
use Rattle.std.proofs.lemmas.Bool.{false≢true}
use Rattle.sender_core.specs.Interleavings.{MayCome}
use Rattle.sender_core.proofs.InterleavingLemmas.{comes_main}
use Rattle.sender_core.proofs.MeetingLemmas.{meets_main}
use Rattle.sender_core.proofs.interleaving.meet_main.Goals as goal

pub returns-clause-met : goal.returns-clause-met
returns-clause-met c _ before so =
    comes_main c.args.lists.now c.args.rows.now before c.args.walk.now.last c.args.walk.now.met c.args.walk.now.row c.args.walk.now.closed c.next_call-call.result.0 c.args.step.now
    c.in-Some.moment c.next_call-call.result.1 c.next_call-call.result.2 so c.next_call-call.ensures c.in-Some.ensures.made

pub returns-in_default-clause-whole : goal.returns-in_default-clause-whole
returns-in_default-clause-whole c main rest so =
    let next = meets_main c.args.lists.now c.args.rows.now c.args.step.now rest c.args.walk.now.last c.args.walk.now.met c.args.walk.now.row c.args.walk.now.closed
    c.next_call-call.result.0 c.next_call-call.result.1 c.next_call-call.result.2 main c.next_call-call.ensures so in
    absurd (false≢true (c.in_default.ensures.whole _ next.0))

pub returns-clause-whole : goal.returns-clause-whole
returns-clause-whole c main rest so =
    let next = meets_main c.args.lists.now c.args.rows.now c.args.step.now rest c.args.walk.now.last c.args.walk.now.met c.args.walk.now.row c.args.walk.now.closed
    c.next_call-call.result.0 c.next_call-call.result.1 c.next_call-call.result.2 main c.next_call-call.ensures so in
    (refl, subst (λ m. MayCome c.args.lists.now c.args.rows.now rest m c.args.walk.now.met c.next_call-call.result.1 c.next_call-call.result.2) (sym c.in-Some.ensures.made.moment_is) next.1)
