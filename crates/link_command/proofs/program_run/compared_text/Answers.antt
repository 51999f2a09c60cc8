use Rattle.std.proofs.Common.{◌≡◌, None, Some, false, rules, true}
use Rattle.std.proofs.lemmas.Result.{IfOk-weaker}
use Rattle.link_core.specs.LinkLaws.{end_of}
use Rattle.link_command.specs.RunsSaid.{run_parts_of}
use Rattle.link_command.proofs.RunLemmas.{beside_fifo, beside_none}
use Rattle.link_command.proofs.program_run.compared_text.Goals as goal

pub returns-then-not-request-clause-text : goal.returns-then-not-request-clause-text
returns-then-not-request-clause-text g c =
    let alone : c.args.request.now.has_fifo ≡ false = search (rules) in
    let run = run_parts_of c.args.run.now in
    IfOk-weaker c.packets_table.result _ _
    (λ text is. record { fifo = None; beside = beside_none _ run c.args.arrivals.now alone; journals = is (end_of run.link c.args.arrivals.now) c.requires.end tt })
    c.packets_table.ensures.text

pub returns-clause-text : goal.returns-clause-text
returns-clause-text g c =
    let has : c.args.request.now.has_fifo ≡ true = search (rules) in
    let run = run_parts_of c.args.run.now in
    let fifo = c.in_ok-fifo.ensures in
    IfOk-weaker c.packets_table-2.result _ _
    (λ text is. record { fifo = Some c.in_ok-fifo.fifo.events; beside = beside_fifo _ run c.args.arrivals.now _ has fifo.journal; journals = is (end_of run.link c.args.arrivals.now) c.requires.end fifo.end })
    c.packets_table-2.ensures.text
