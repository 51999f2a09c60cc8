use Rattle.std.proofs.Common.{◌≡◌, ◌∙◌, ◌++◌, None, Some, false, rules, true}
use Rattle.std.proofs.KnownBytes.{Keeps-trans}
use Rattle.link_command.specs.RunsSaid.{run_parts_of}
use Rattle.link_command.proofs.RunLemmas.{beside_fifo, beside_none, bins_table}
use Rattle.link_command.proofs.program_run.bins_text.Goals as goal

pub returns-then-not-request-clause-text : goal.returns-then-not-request-clause-text
returns-then-not-request-clause-text g c =
    let alone : c.args.request.now.has_fifo ≡ false = search (rules) in
    let ran = c.in_ok-report.ensures.rows in
    record {
      steps = ran.steps;
      events = ran.events;
      journal = ran.journal;
      table = bins_table _ _ (run_parts_of c.args.run.now) c.args.arrivals.now _ _ None _ c.requires.table (beside_none _ (run_parts_of c.args.run.now) c.args.arrivals.now alone) ran.text;
    }

pub returns-in_err-extend_from_slice-clause-quiet : goal.returns-in_err-extend_from_slice-clause-quiet
returns-in_err-extend_from_slice-clause-quiet g c = λ none. Keeps-trans _ _ _ (c.note_report.ensures none) (c.note_rows.ensures none)

pub returns-clause-text : goal.returns-clause-text
returns-clause-text g c =
    let has : c.args.request.now.has_fifo ≡ true = search (rules) in
    let ran = c.in_ok-report.ensures.rows in
    let beside = c.in_ok-rows.ensures in
    let both = (c.in_ok-extend_from_slice.ensures {u = tt}).items ∙ (λ i. ran.text i ++ (c.deref-2.ensures.value ∙ beside.text) i) in
    record {
      steps = ran.steps;
      events = ran.events;
      journal = ran.journal;
      table = bins_table _ _ (run_parts_of c.args.run.now) c.args.arrivals.now _ _ (Some beside.events) _ c.requires.table (beside_fifo _ (run_parts_of c.args.run.now) c.args.arrivals.now _ has beside.fifo) both;
    }

pub returns-clause-quiet : goal.returns-clause-quiet
returns-clause-quiet g c = λ none. Keeps-trans _ _ _ (c.note_report.ensures none) (c.note_rows.ensures none)
