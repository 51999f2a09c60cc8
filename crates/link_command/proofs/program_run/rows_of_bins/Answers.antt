use Rattle.std.proofs.Common.{◌∙◌}
use Rattle.std.proofs.lemmas.Result.{IfOk-weaker}
use Rattle.link_report.specs.SeriesTables.{queue_text}
use Rattle.link_report.proofs.ShapeLemmas.{every_of_shape, queue_of_shape}
use Rattle.link_command.proofs.program_run.rows_of_bins.Goals as goal

pub returns : goal.returns
returns c =
    let queue = queue_of_shape c.args.binned c.args._queue c.args._every c.requires in
    let every = every_of_shape c.args.binned c.args._queue c.args._every c.requires in
    IfOk-weaker c.into_text.result _ _
    (λ text is told. is told ∙ (λ i. queue_text (queue i) (every i) c.args.binned.events))
    c.into_text.ensures.text
