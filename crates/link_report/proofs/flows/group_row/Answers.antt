use Rattle.std.proofs.Common.{◌≡◌, ◌∙◌, ◌∷◌, [], ℕ, List, ap, subst}
use Rattle.std.specs.Fmt.{decimal}
use Rattle.std.specs.Prelude.{OnOk}
use Rattle.packet_core.specs.declared.packet.FiveTuple.{FiveTuple}
use Rattle.link_report.specs.FlowTables.{first_flow, summary_fields}
use Rattle.link_report.specs.QueueNames.{queue_name}
use Rattle.link_report.specs.SummaryFields.{listed}
use Rattle.link_report.specs.Summaries.{summary_of}
use Rattle.link_report.specs.Tables.{AddsToTable, address_text, line_of}
use Rattle.link_report.proofs.flows.group_row.Goals as goal

pub returns : goal.returns
returns c =
    let group = c.args.group.now in
    let digits : listed c.of-digits.result ≡ summary_fields (summary_of c.args.span group.packets) = c.of-digits.ensures ∙ ap summary_fields (rw c.packets.ensures at (c.in_ok-summary.ensures {u = tt})) in
    let number : c.as_bytes.result.now ≡ decimal group.number = c.as_bytes.ensures ∙ c.of-number.ensures ∙ ap decimal c.number.ensures in
    let proto : c.as_bytes-2.result.now ≡ decimal group.tuple.proto = c.as_bytes-2.ensures ∙ c.of-proto.ensures ∙ ap decimal (c.from.ensures ∙ ap (λ (t : FiveTuple). t.proto) c.tuple-tuple.ensures) in
    let src : c.as_bytes-3.result.now ≡ address_text group.tuple.src = c.as_bytes-3.ensures ∙ c.of-src.ensures ∙ ap (λ (t : FiveTuple). address_text t.src) c.tuple-tuple.ensures in
    let dst : c.as_bytes-4.result.now ≡ address_text group.tuple.dst = c.as_bytes-4.ensures ∙ c.of-dst.ensures ∙ ap (λ (t : FiveTuple). address_text t.dst) c.tuple-tuple.ensures in
    let sport : c.as_bytes-5.result.now ≡ decimal group.tuple.sport = c.as_bytes-5.ensures ∙ c.of-sport.ensures ∙ ap decimal (c.from-2.ensures ∙ ap (λ (t : FiveTuple). t.sport) c.tuple-tuple.ensures) in
    let dport : c.as_bytes-6.result.now ≡ decimal group.tuple.dport = c.as_bytes-6.ensures ∙ c.of-dport.ensures ∙ ap decimal (c.from-3.ensures ∙ ap (λ (t : FiveTuple). t.dport) c.tuple-tuple.ensures) in
    let flow : c.as_bytes-7.result.now ≡ decimal (first_flow group.packets) = c.as_bytes-7.ensures ∙ c.of-flow.ensures ∙ ap decimal (c.from-4.ensures ∙ c.first_flow.ensures ∙ ap first_flow c.packets-2.ensures) in
    let told = subst (λ (fields : List (List ℕ)). OnOk c.row.result (AddsToTable c.args.table.now c.row.new.self (line_of fields)))
    (λ k. c.name.ensures k ∷ number k ∷ proto k ∷ src k ∷ dst k ∷ sport k ∷ dport k ∷ flow k ∷ c.as_bytes-8.ensures k ∷ c.as_bytes-9.ensures k ∷ c.as_bytes-10.ensures k ∷ c.as_bytes-11.ensures k ∷ c.as_bytes-12.ensures k ∷ c.as_bytes-13.ensures k ∷ c.as_bytes-14.ensures k ∷ c.as_bytes-15.ensures k ∷ c.as_bytes-16.ensures k ∷ c.as_bytes-17.ensures k ∷ c.as_bytes-18.ensures k ∷ c.as_bytes-19.ensures k ∷ c.as_bytes-20.ensures k ∷ c.as_bytes-21.ensures k ∷ [])
    c.row.ensures in
    subst (λ (rest : List (List ℕ)). OnOk c.row.result (AddsToTable c.args.table.now c.row.new.self (line_of (queue_name c.args.queue ∷ decimal group.number ∷ decimal group.tuple.proto ∷ address_text group.tuple.src
    ∷ address_text group.tuple.dst ∷ decimal group.tuple.sport ∷ decimal group.tuple.dport ∷ decimal (first_flow group.packets) ∷ rest)))) digits told
