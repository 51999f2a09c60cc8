use Rattle.std.proofs.Common.{◌≡◌, ◌∙◌, ◌∷◌, [], ℕ, List, ap, codes, subst}
use Rattle.std.specs.Prelude.{OnOk}
use Rattle.link_report.specs.FlowTables.{summary_fields}
use Rattle.link_report.specs.QueueNames.{queue_name}
use Rattle.link_report.specs.SummaryFields.{listed}
use Rattle.link_report.specs.Summaries.{summary_of}
use Rattle.link_report.specs.Tables.{AddsToTable, line_of}
use Rattle.link_report.proofs.flows.all_row.Goals as goal

pub returns : goal.returns
returns c =
    let digits : listed c.of-digits.result ≡ summary_fields (summary_of c.args.span c.args.packets.now) = c.of-digits.ensures ∙ ap summary_fields (c.in_ok-summary.ensures {u = tt}) in
    let told = subst (λ (fields : List (List ℕ)). OnOk c.row.result (AddsToTable c.args.table.now c.row.new.self (line_of fields)))
    (λ k. c.name.ensures k ∷ codes "all" ∷ [] ∷ [] ∷ [] ∷ [] ∷ [] ∷ [] ∷ c.as_bytes.ensures k ∷ c.as_bytes-2.ensures k ∷ c.as_bytes-3.ensures k ∷ c.as_bytes-4.ensures k ∷ c.as_bytes-5.ensures k ∷ c.as_bytes-6.ensures k ∷ c.as_bytes-7.ensures k ∷ c.as_bytes-8.ensures k ∷ c.as_bytes-9.ensures k ∷ c.as_bytes-10.ensures k ∷ c.as_bytes-11.ensures k ∷ c.as_bytes-12.ensures k ∷ c.as_bytes-13.ensures k ∷ c.as_bytes-14.ensures k ∷ [])
    c.row.ensures in
    subst (λ (rest : List (List ℕ)). OnOk c.row.result (AddsToTable c.args.table.now c.row.new.self (line_of (queue_name c.args.queue ∷ codes "all" ∷ [] ∷ [] ∷ [] ∷ [] ∷ [] ∷ [] ∷ rest)))) digits told
