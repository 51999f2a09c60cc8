use Rattle.std.proofs.Common.{ap, ◌∙◌}
use Rattle.std.proofs.lemmas.Result.{IfOk-weaker}
use Rattle.clap.specs.Words.{App, app_of, with_subcommand}
use Rattle.command_core.proofs.command_line.with_trace.Goals as goal

pub returns : goal.returns
returns c =
    IfOk-weaker c.subcommand.result _ _
    (λ r adds. adds.shape c.in_ok-trace.ensures.local ∙ ap (λ (line : App). with_subcommand (app_of c.args.command) line.top) c.in_ok-trace.ensures.line) c.subcommand.ensures
