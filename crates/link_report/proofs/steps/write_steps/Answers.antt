use Rattle.std.proofs.Common.{◌∙◌, ◌∷◌, [], codes, cond, sym}
use Rattle.std.proofs.lemmas.Result.{on_ok_weaker}
use Rattle.link_report.specs.StepTables.{any_ipv6}
use Rattle.link_report.specs.Tables.{AddsToTable, line_of}
use Rattle.link_report.proofs.TableLemmas.{adds_both, adds_none}
use Rattle.link_report.proofs.steps.write_steps.Goals as goal
use Rattle.link_report.proofs.steps.write_steps.Goals.{then-any_ipv6+in_ok-row, else-any_ipv6}

pub returns : goal.returns
returns c =
    let start : AddsToTable c.args.table.now c.if-any_ipv6.table (cond (any_ipv6 c.args.steps.now) (line_of (codes "version" ∷ codes "2" ∷ [])) []) =
    elim c.if-any_ipv6.branch [
      | then-any_ipv6+in_ok-row w ↦ rw (w.table-is, sym c.any_ipv6.ensures ∙ w.if-any_ipv6.true) (w.in_ok-row.ensures {u = tt})
      | else-any_ipv6 w ↦ rw (w.table-is, sym c.any_ipv6.ensures ∙ w.if-any_ipv6.false) (adds_none _)
    ] in
    on_ok_weaker c.rows.result (λ more. adds_both _ _ _ _ _ start more) c.rows.ensures
