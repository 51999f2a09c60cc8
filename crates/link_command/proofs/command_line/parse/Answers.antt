use Rattle.std.proofs.Common.{ap, map, ◌≡◌, ◌∙◌, List}
use Rattle.std.proofs.lemmas.Result.{IfErr-weaker, IfOk-weaker}
use Rattle.clap.specs.Words.{Text, app_of}
use Rattle.link_command.specs.CommandLine.{texts_in}
use Rattle.link_command.proofs.CommandLineLemmas.{line_is_free, line_is_simple, memory_is_no_mistake, mistake_made, text_asked}
use Rattle.link_command.proofs.command_line.parse.Goals as goal

pub returns-in_ok-run_request-in-Ok-clause-run : goal.returns-in_ok-run_request-in-Ok-clause-run
returns-in_ok-run_request-in-Ok-clause-run c run same =
    let line = c.in_ok-command.ensures in
    let it : c.in_ok-run_request-in-Ok.field-0 ≡ run = cc in
    record {
      line = app_of c.in_ok-command.command;
      of_program = line;
      taken = c.in-Ok.ensures.kinds (line_is_free _ line);
      said = rw (← it) (c.in_ok-run_request-in-Ok.ensures ∙ ap texts_in (c.in-Ok.ensures.matches (line_is_simple _ line)).0);
    }

pub returns-in-Err-clause-text : goal.returns-in-Err-clause-text
returns-in-Err-clause-text c =
    let words : List Text = map (λ w. w.now) c.args.words.now in
    let line = c.in_ok-command.ensures in
    let kinds = c.in-Err.ensures.kinds (line_is_free _ line) in
    IfOk-weaker c.without_matches.result _ _
    (λ r h text is. text_asked (app_of c.in_ok-command.command) words c.in-Err.error line kinds (h text is)) c.without_matches.ensures.text

pub returns-in-Err-clause-mistake : goal.returns-in-Err-clause-mistake
returns-in-Err-clause-mistake c =
    let words : List Text = map (λ w. w.now) c.args.words.now in
    let line = c.in_ok-command.ensures in
    let kinds = c.in-Err.ensures.kinds (line_is_free _ line) in
    IfErr-weaker c.without_matches.result _ _
    (λ fault h text is. mistake_made (app_of c.in_ok-command.command) words c.in-Err.error line kinds (h text is)) c.without_matches.ensures.mistake

pub returns-in_err-run_request-in-Ok-clause-shown : goal.returns-in_err-run_request-in-Ok-clause-shown
returns-in_err-run_request-in-Ok-clause-shown c = memory_is_no_mistake c.from_residual-in_err-run_request-in-Ok.result _ c.from_residual-in_err-run_request-in-Ok.ensures.1
