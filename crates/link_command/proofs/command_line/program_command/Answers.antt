use Rattle.std.proofs.Common.{ap₂, ◌∙◌}
use Rattle.std.proofs.lemmas.Result.{IfOk-weaker}
use Rattle.clap.specs.Words.{with_rule}
use Rattle.link_command.proofs.command_line.program_command.Goals as goal

pub returns : goal.returns
returns c =
    let one = c.in_ok-arg.ensures.shape c.rate_argument.ensures.local ∙ ap₂ with_rule c.in_ok-bare.ensures.line c.rate_argument.ensures.rule in
    let two = c.in_ok-arg-2.ensures.shape c.option.ensures.local ∙ ap₂ with_rule one c.option.ensures.rule in
    let three = c.in_ok-arg-3.ensures.shape c.option-2.ensures.local ∙ ap₂ with_rule two c.option-2.ensures.rule in
    let four = c.in_ok-arg-4.ensures.shape c.option-3.ensures.local ∙ ap₂ with_rule three c.option-3.ensures.rule in
    let five = c.in_ok-arg-5.ensures.shape c.queue_argument.ensures.local ∙ ap₂ with_rule four c.queue_argument.ensures.rule.2 in
    let six = c.in_ok-arg-6.ensures.shape c.option-4.ensures.local ∙ ap₂ with_rule five c.option-4.ensures.rule in
    let seven = c.in_ok-arg-7.ensures.shape c.table_argument.ensures.local ∙ ap₂ with_rule six c.table_argument.ensures.rule.2 in
    IfOk-weaker c.arg-8.result _ _
    (λ r adds. record {
      queues = c.queue_argument.ensures.rule.0;
      tables = c.table_argument.ensures.rule.0;
      takes_queues = c.queue_argument.ensures.rule.1;
      takes_tables = c.table_argument.ensures.rule.1;
      is = adds.shape c.parameter_argument.ensures.local ∙ ap₂ with_rule seven c.parameter_argument.ensures.rule;
    }) c.arg-8.ensures
