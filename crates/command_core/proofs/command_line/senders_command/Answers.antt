use Rattle.std.proofs.Common.{ap, ap₂, false, ◌||◌, ◌≡◌, ◌∙◌}
use Rattle.std.proofs.lemmas.Result.{IfOk-weaker}
use Rattle.clap.specs.Words.{app_of, new_app, with_rule}
use Rattle.clap.specs.Simple.{app_of_fields}
use Rattle.clap.specs.declared.builder.command.Command.TheOpen.{Command-F}
use Rattle.clap.specs.declared.builder.command.Command.{Command}
use Rattle.clap.specs.declared.builder.command.Command.TheViews.{out-Command as fields_of}
use Rattle.command_core.specs.CommandLine.{seed_option, senders_option}
use Rattle.command_core.proofs.command_line.senders_command.Goals as goal

pub returns-clause-line : goal.returns-clause-line
returns-clause-line c =
    let described : app_of c.after_long_help-command.result ≡ app_of c.new.result =
    ap app_of_fields c.after_long_help-command.ensures ∙ ap app_of_fields c.long_about.ensures ∙ ap app_of_fields c.about.ensures in
    let with_seed : app_of c.in_ok-arg.field-0 ≡ with_rule (new_app c.args.name.now) seed_option =
    c.in_ok-arg.ensures.shape c.seed_argument.ensures.local ∙ ap₂ with_rule (described ∙ c.new.ensures.app) c.seed_argument.ensures.rule in
    let with_senders : app_of c.in_ok-arg-2.field-0 ≡ with_rule (with_rule (new_app c.args.name.now) seed_option) senders_option =
    c.in_ok-arg-2.ensures.shape c.senders_argument.ensures.local ∙ ap₂ with_rule with_seed c.senders_argument.ensures.rule in
    IfOk-weaker c.arg-3.result _ _
    (λ r adds. adds.shape c.parameter_argument.ensures.local ∙ ap₂ with_rule with_senders c.parameter_argument.ensures.rule) c.arg-3.ensures

pub returns-clause-local : goal.returns-clause-local
returns-clause-local c =
    let described : (fields_of c.after_long_help-command.result).has_globals ≡ false =
    ap (λ (f : Command-F Command). f.has_globals) c.after_long_help-command.ensures
    ∙ ap (λ (f : Command-F Command). f.has_globals) c.long_about.ensures
    ∙ ap (λ (f : Command-F Command). f.has_globals) c.about.ensures ∙ c.new.ensures.local in
    let with_seed : (fields_of c.in_ok-arg.field-0).has_globals ≡ false = c.in_ok-arg.ensures.globals ∙ ap₂ (λ a b. a || b) described c.seed_argument.ensures.local in
    let with_senders : (fields_of c.in_ok-arg-2.field-0).has_globals ≡ false = c.in_ok-arg-2.ensures.globals ∙ ap₂ (λ a b. a || b) with_seed c.senders_argument.ensures.local in
    IfOk-weaker c.arg-3.result _ _ (λ r adds. adds.globals ∙ ap₂ (λ a b. a || b) with_senders c.parameter_argument.ensures.local) c.arg-3.ensures
