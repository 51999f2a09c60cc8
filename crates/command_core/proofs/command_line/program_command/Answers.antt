use Rattle.std.proofs.Common.{ap, ◌∙◌}
use Rattle.std.proofs.lemmas.Result.{IfOk-weaker}
use Rattle.clap.specs.Words.{App, with_subcommand}
use Rattle.command_core.specs.CommandLine.{lanes_line, locked_line, trace_line}
use Rattle.command_core.proofs.command_line.program_command.Goals as goal

pub returns : goal.returns
returns c =
    let one = c.in_ok-one.ensures ∙ ap (λ (line : App). with_subcommand line trace_line.top) c.in_ok-bare.ensures in
    let two = c.in_ok-two.ensures ∙ ap (λ (line : App). with_subcommand line locked_line.top) one in
    IfOk-weaker c.with_lanes.result _ _ (λ r adds. adds ∙ ap (λ (line : App). with_subcommand line lanes_line.top) two) c.with_lanes.ensures
