use Rattle.command_core.proofs.shown.push_number.Goals as goal

pub returns : goal.returns
returns c =
    λ was. c.in_ok-push_shown-6.ensures (c.in_ok-push_shown-5.ensures (c.in_ok-push_shown-4.ensures (c.in_ok-push_shown-3.ensures (c.in_ok-push_shown-2.ensures (c.in_ok-push_shown.ensures was)))))
