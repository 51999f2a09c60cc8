use Rattle.std.proofs.Common.{ap, codes, ◌≡◌, ◌∙◌}
use Rattle.clap.specs.Words.{app_of, new_app}
use Rattle.clap.specs.Simple.{app_of_fields}
use Rattle.command_core.specs.CommandLine.{asked_of}
use Rattle.command_core.proofs.command_line.bare_command.Goals as goal

pub returns : goal.returns
returns c =
    let named : app_of c.in_ok-named.named ≡ new_app (codes "fqsim") = ap app_of_fields c.in_ok-named.ensures.0 ∙ c.new.ensures.app in
    c.described.ensures ∙ ap asked_of named
