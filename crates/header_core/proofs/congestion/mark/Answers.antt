-- A mark is what the lemmas say of the bytes that it writes.
use Rattle.std.proofs.Common.{◌∙◌, ℕ, List, sym, subst}
use Rattle.std.proofs.lemmas.Bool.{OnTrue_at, OnTrue_from}
use Rattle.header_core.specs.Marks.{KeepsSums, Marks}
use Rattle.header_core.proofs.MarkLemmas.{marks_packet, sums_packet}
use Rattle.header_core.proofs.congestion.mark.Goals as goal

pub returns-then-markable-clause-marks : goal.returns-then-markable-clause-marks
returns-then-markable-clause-marks c =
    let is = c.is_markable-markable.ensures in
    OnTrue_from _ _ (λ yes. subst (λ (l : List ℕ). Marks c.args.bytes.now l) (sym c.write_mark.ensures)
    (marks_packet c.args.bytes.now (sym is.value ∙ yes) (OnTrue_at yes is.room)))

pub returns-then-markable-clause-sums : goal.returns-then-markable-clause-sums
returns-then-markable-clause-sums c =
    let is = c.is_markable-markable.ensures in
    OnTrue_from _ _ (λ yes. subst (λ (l : List ℕ). KeepsSums c.args.bytes.now l) (sym c.write_mark.ensures)
    (sums_packet c.args.bytes.now (sym is.value ∙ yes) is.fits (OnTrue_at yes is.room)))
