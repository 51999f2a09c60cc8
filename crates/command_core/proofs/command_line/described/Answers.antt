use Rattle.std.proofs.Common.{ap, true, ◌≡◌, ◌∙◌}
use Rattle.clap.specs.Words.{App, app_of}
use Rattle.clap.specs.Simple.{Shape, app_of_fields, on_top}
use Rattle.command_core.proofs.command_line.described.Goals as goal

pub returns : goal.returns
returns c =
    let told : app_of c.after_help.result ≡ app_of c.arg_required_else_help.result =
    ap app_of_fields c.after_help.ensures ∙ ap app_of_fields c.long_about.ensures ∙ ap app_of_fields c.about.ensures in
    let with_help : app_of c.arg_required_else_help.result ≡ on_top (λ (top : Shape). record top { arg_required_else_help = true }) (app_of c.subcommand_required.result) =
    ap app_of_fields c.arg_required_else_help.ensures in
    let with_need : app_of c.subcommand_required.result ≡ on_top (λ (top : Shape). record top { subcommand_required = true }) (app_of c.no_binary_name.result) =
    ap app_of_fields c.subcommand_required.ensures in
    let without_name : app_of c.no_binary_name.result ≡ on_top (λ (top : Shape). record top { no_binary_name = true }) (app_of c.args.named) =
    ap app_of_fields c.no_binary_name.ensures in
    told ∙ with_help ∙ ap (on_top (λ (top : Shape). record top { arg_required_else_help = true })) with_need
    ∙ ap (λ (line : App). on_top (λ (top : Shape). record top { arg_required_else_help = true; subcommand_required = true }) line) without_name
