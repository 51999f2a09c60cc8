use Rattle.std.proofs.Common.{ap₂, ◌||◌, ◌∙◌}
use Rattle.std.proofs.lemmas.Result.{IfOk-weaker}
use Rattle.clap.specs.Words.{with_rule}
use Rattle.command_core.proofs.command_line.lanes_command.Goals as goal

pub returns-clause-line : goal.returns-clause-line
returns-clause-line c =
    IfOk-weaker c.arg.result _ _
    (λ r adds. adds.shape c.monitors_argument.ensures.local ∙ ap₂ with_rule c.in_ok-command.ensures.line c.monitors_argument.ensures.rule) c.arg.ensures

pub returns-clause-local : goal.returns-clause-local
returns-clause-local c =
    IfOk-weaker c.arg.result _ _
    (λ r adds. adds.globals ∙ ap₂ (λ a b. a || b) c.in_ok-command.ensures.local c.monitors_argument.ensures.local) c.arg.ensures
