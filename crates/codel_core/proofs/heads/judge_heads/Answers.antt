use Rattle.std.proofs.Common.{◌≡◌, Some, None, refl}
use Rattle.std.specs.Prelude.{slice_get}
use Rattle.codel_core.specs.declared.served.Mark.TheVariants.{NoMark}
use Rattle.codel_core.specs.Verdict.{IsAt, given_up, nothing}
use Rattle.codel_core.proofs.ServeLemmas.{judges_head, stands_first}
use Rattle.codel_core.proofs.heads.judge_heads.Goals as goal

pub returns-in_default-clause-judges : goal.returns-in_default-clause-judges
returns-in_default-clause-judges g c =
    let none : None ≡ slice_get (g.L.Judged.judged c.args.line.now) 0 = c.in_default.ensures in
    record {
      drops = 0;
      decides = record { by_codel = NoMark; verdict = nothing (rw (← none) (λ d. d.0)); mark_is = rw (← none) refl; first_above = given_up (rw (← none) (λ late. late)) };
      stands = stands_first g.met.L.Judged.advanced_none g.met.S.DropSink.taken_none;
    }

pub returns-then-passes-clause-judges : goal.returns-then-passes-clause-judges
returns-then-passes-clause-judges g c =
    let q = g.L.Judged.judged c.args.line.now in
    let head : Some c.in-Some.first.now ≡ slice_get q 0 = c.in-Some.ensures in
    let at : IsAt c.in-Some.first.now c.behind.result q 0 = record { head_is = head; bytes = c.behind.ensures } in
    let sent = c.passes.ensures.sent (cc) in
    judges_head NoMark (stands_first g.met.L.Judged.advanced_none g.met.S.DropSink.taken_none) head c.mark_by_threshold.ensures
    (rw (← at.head_is, ← at.bytes) sent.first_above) (sent.verdict q at)
