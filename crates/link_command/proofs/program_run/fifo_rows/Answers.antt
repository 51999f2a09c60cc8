use Rattle.std.proofs.Common.{◌∙◌}
use Rattle.link_report.specs.Binnings.{shape_of}
use Rattle.std.proofs.lemmas.Result.{IfOk-weaker}
use Rattle.link_command.proofs.program_run.fifo_rows.Goals as goal

pub returns : goal.returns
returns c =
    let ran = c.in_ok-told.ensures.journal in
    let events = c.in_ok-told.told.events in
    IfOk-weaker c.rows_of_bins.result _ _
    (λ rows is. record {
      events = events;
      fifo = ran;
      text = is (record { ids = c.fifo_fates.ensures.ids _ _ _ _ events ran; follow = c.fifo_fates.ensures.follow _ _ _ _ events ran });
    })
    c.rows_of_bins.ensures

pub rows_of_bins-requires : goal.rows_of_bins-requires
rows_of_bins-requires c =
    let new = c.in_ok-events.ensures in
    c.in_ok-told.ensures.made_for ∙ (λ i. shape_of (new.queue i) (new.every i))
