-- What is left, and whether one of the steps is a close: a row or a step more.
use Rattle.std.proofs.Common.{◌≡◌, ◌∙◌, ℕ, ◌+◌, ◌<◌, All, arith, false, true, List, [], ◌∷◌, ◌++◌, ap, drop, get_or, length, subst, sym, take, take-append-drop}
use Rattle.std.proofs.lemmas.List.{take_more}
use Rattle.journal_core.specs.declared.step.Step.{Step}
use Rattle.trace_core.specs.declared.journal_report.SenderRow.{SenderRow}
use Rattle.run_core.specs.DeviceRuns.{closed_after, has_close}
use Rattle.run_core.proofs.DeviceRunLemmas.{closed_append, closed_stays}
use Rattle.run_core.proofs.JournalLemmas.{all_push}

one_more : {X : Type 0} (xs : List X) (k : ℕ) (x : X) → k < length xs → x ≡ get_or xs k x → take (k + 1) xs ≡ take k xs ++ x ∷ []
one_more xs k x within stands = take_more xs k x within ∙ ap (λ y. take k xs ++ y ∷ []) (sym stands)

pub none_left_more : (rows : List SenderRow) (k : ℕ) (d : SenderRow) → k < length rows → All (λ r. r.left ≡ 0) (take k rows)
    → (get_or rows k d).left ≡ 0 → All (λ r. r.left ≡ 0) (take (k + 1) rows)
none_left_more rows k d within before none =
    subst (λ rs. All (λ r. r.left ≡ 0) rs) (sym (take_more rows k d within)) (all_push (λ r. r.left ≡ 0) (take k rows) (get_or rows k d) before none)

-- one of which something is left is enough
pub one_left : (rows : List SenderRow) (k : ℕ) (d : SenderRow) → k < length rows → 0 < (get_or rows k d).left → ¬ All (λ r. r.left ≡ 0) rows
one_left rows k d within some all = absurd (omega (arith, some, all k d within))

pub open_more : (steps : List Step) (k : ℕ) (step : Step) → k < length steps → step ≡ get_or steps k step → has_close (take k steps) ≡ false
    → has_close (step ∷ []) ≡ false → has_close (take (k + 1) steps) ≡ false
open_more steps k step within stands before none =
    ap has_close (one_more steps k step within stands) ∙ closed_append false (take k steps) (step ∷ []) ∙ ap (λ b. closed_after b (step ∷ [])) before ∙ none

pub close_found : (steps : List Step) (k : ℕ) (step : Step) → k < length steps → step ≡ get_or steps k step → has_close (take k steps) ≡ false
    → has_close (step ∷ []) ≡ true → has_close steps ≡ true
close_found steps k step within stands before is =
    let front : has_close (take (k + 1) steps) ≡ true =
    ap has_close (one_more steps k step within stands) ∙ closed_append false (take k steps) (step ∷ []) ∙ ap (λ b. closed_after b (step ∷ [])) before ∙ is in
    ap has_close (sym (take-append-drop (k + 1) steps)) ∙ closed_append false (take (k + 1) steps) (drop (k + 1) steps)
    ∙ ap (λ b. closed_after b (drop (k + 1) steps)) front ∙ closed_stays (drop (k + 1) steps)
