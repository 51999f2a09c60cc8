use Rattle.std.proofs.Common.{◌≡◌, List, ℕ, IfOk, string_bytes, subst, sym}
use Rattle.link_picture.proofs.WordLemmas.{in_kilobits}
use Rattle.link_picture.proofs.wording.rate_text.Goals as goal

pub returns-then-step-eq0-3 : goal.returns-then-step-eq0-3
returns-then-step-eq0-3 c =
    let text = in_kilobits c.args.rate c.args.step c.if-rate-eq0.false c.if-step-eq0.false c.if-step-eq0-2.false c.if-step-eq0-3.true in
    subst (λ (t : List ℕ). IfOk c.format-then-step-eq0-3.result (λ s. string_bytes s ≡ t)) (sym text) c.format-then-step-eq0-3.ensures.ok
