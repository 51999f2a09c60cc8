use Rattle.std.proofs.Common.{◌≡◌, [], drop, subst}
use Rattle.std.proofs.lemmas.Bool.{false≢true}
use Rattle.sender_core.specs.Interleavings.{main_rows}
use Rattle.sender_core.proofs.MeetingLemmas.{close_left}
use Rattle.sender_core.proofs.interleaving.is_done.Goals as goal

pub returns-then-not-closed : goal.returns-then-not-closed
returns-then-not-closed c =
    let left = drop c.args.row c.args.rows.now in
    (λ no. absurd (false≢true no), λ none. absurd (close_left left (subst (λ b. main_rows b left ≡ []) c.if-not-closed.true none)))
