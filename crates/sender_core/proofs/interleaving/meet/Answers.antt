use Rattle.std.proofs.Common.{◌∷◌, subst}
use Rattle.sender_core.specs.Interleavings.{MayCome}
use Rattle.sender_core.proofs.MeetingLemmas.{is_main}
use Rattle.sender_core.proofs.interleaving.meet.Goals as goal

pub returns-in-Enqueue-clause-whole : goal.returns-in-Enqueue-clause-whole
returns-in-Enqueue-clause-whole c few rest so =
    c.meet_sender.ensures.whole few c.args.rows.now rest
    (subst (λ s. MayCome c.args.lists.now c.args.rows.now (s ∷ rest) c.args.walk.now.last c.args.walk.now.met c.args.walk.now.row c.args.walk.now.closed) c.in-Enqueue.is so)

pub returns-in_default-clause-whole : goal.returns-in_default-clause-whole
returns-in_default-clause-whole c few rest so = c.meet_main.ensures.whole (is_main c.args.step.now c.in_default.not-Enqueue) rest so
