use Rattle.std.proofs.Common.{ap, subst, sym, codes, map, option_map, unwrap_or, ◌≡◌, ◌∙◌, List, []}
use Rattle.std.proofs.lemmas.Result.{IfErr-weaker, IfOk-weaker}
use Rattle.clap.specs.Words.{App, Text, all_of, app_of, fault_of, first_of, is_simple, is_simple_and_free, one_of, subcommand_name_of, subcommand_of}
use Rattle.clap.specs.Walk.{Row}
use Rattle.command_core.specs.CommandLine.{IsMonitorCount, IsSenderCount, program_line, rows_behind, rows_of_entered, run_name, run_rows}
use Rattle.command_core.proofs.CommandLineLemmas.{help_asked_of, line_is_free, line_is_simple, memory_is_no_mistake, mistake_made_in, name_beside}
use Rattle.command_core.proofs.command_line.parse.Goals.{In-Ok}
use Rattle.command_core.proofs.command_line.parse.Goals as goal

pub returns-in_err-request_of-in-Ok-clause-mistake : goal.returns-in_err-request_of-in-Ok-clause-mistake
returns-in_err-request_of-in-Ok-clause-mistake c = memory_is_no_mistake c.from_residual-in_err-request_of-in-Ok.result _ c.from_residual-in_err-request_of-in-Ok.ensures.1

-- the words have no fault
no_fault : (c : In-Ok) → fault_of program_line (map (λ w. w.now) c.args.words.now) ≡ []
no_fault c =
    let words : List Text = map (λ w. w.now) c.args.words.now in
    let line = c.in_ok-command.ensures in
    subst (λ (l : App). fault_of l words ≡ []) line (c.in-Ok.ensures.kinds (ap is_simple_and_free line ∙ line_is_free))

-- the name of the subcommand is what the words say
name_read : (c : In-Ok) → subcommand_name_of c.in-Ok.matches ≡ run_name (map (λ w. w.now) c.args.words.now)
name_read c =
    let words : List Text = map (λ w. w.now) c.args.words.now in
    let line = c.in_ok-command.ensures in
    let entered = (c.in-Ok.ensures.matches (ap is_simple line ∙ line_is_simple)).1 in
    name_beside _ ∙ ap (option_map (λ found. found.0)) entered ∙ ap (λ (l : App). option_map (λ found. found.0) (subcommand_of l words)) line

-- what stands behind the subcommand is what the words say
rows_read : (c : In-Ok) → rows_behind c.in-Ok.matches ≡ run_rows (map (λ w. w.now) c.args.words.now)
rows_read c =
    let words : List Text = map (λ w. w.now) c.args.words.now in
    let line = c.in_ok-command.ensures in
    let entered = (c.in-Ok.ensures.matches (ap is_simple line ∙ line_is_simple)).1 in
    ap rows_of_entered entered ∙ ap (λ (l : App). rows_of_entered (subcommand_of l words)) line

pub returns-in_ok-request_of-in-Ok-clause-trace : goal.returns-in_ok-request_of-in-Ok-clause-trace
returns-in_ok-request_of-in-Ok-clause-trace c trace same =
    let at = (goal.at.returns-in_ok-request_of-in-Ok-clause-trace c).In-Ok in
    let asked = c.in_ok-request_of-in-Ok.ensures.trace trace same in
    (no_fault at, λ is. asked.0 (name_read at ∙ is), λ is. asked.1 (name_read at ∙ is))

pub returns-in_ok-request_of-in-Ok-clause-seed : goal.returns-in_ok-request_of-in-Ok-clause-seed
returns-in_ok-request_of-in-Ok-clause-seed c trace same =
    let rows = rows_read (goal.at.returns-in_ok-request_of-in-Ok-clause-seed c).In-Ok in
    (c.in_ok-request_of-in-Ok.ensures.trace trace same).2.seed ∙ ap (first_of (codes "seed")) rows

pub returns-in_ok-request_of-in-Ok-clause-parameters : goal.returns-in_ok-request_of-in-Ok-clause-parameters
returns-in_ok-request_of-in-Ok-clause-parameters c trace same =
    let rows = rows_read (goal.at.returns-in_ok-request_of-in-Ok-clause-parameters c).In-Ok in
    (c.in_ok-request_of-in-Ok.ensures.trace trace same).2.parameters ∙ ap (λ found. unwrap_or (all_of (codes "PARAM") found) []) rows

pub returns-in_ok-request_of-in-Ok-clause-locked : goal.returns-in_ok-request_of-in-Ok-clause-locked
returns-in_ok-request_of-in-Ok-clause-locked c locked same =
    let at = (goal.at.returns-in_ok-request_of-in-Ok-clause-locked c).In-Ok in
    let asked = c.in_ok-request_of-in-Ok.ensures.locked locked same in
    (no_fault at, sym (name_read at) ∙ asked.0)

pub returns-in_ok-request_of-in-Ok-clause-locked_seed : goal.returns-in_ok-request_of-in-Ok-clause-locked_seed
returns-in_ok-request_of-in-Ok-clause-locked_seed c locked same =
    let rows = rows_read (goal.at.returns-in_ok-request_of-in-Ok-clause-locked_seed c).In-Ok in
    (c.in_ok-request_of-in-Ok.ensures.locked locked same).1.seed ∙ ap (first_of (codes "seed")) rows

pub returns-in_ok-request_of-in-Ok-clause-locked_parameters : goal.returns-in_ok-request_of-in-Ok-clause-locked_parameters
returns-in_ok-request_of-in-Ok-clause-locked_parameters c locked same =
    let rows = rows_read (goal.at.returns-in_ok-request_of-in-Ok-clause-locked_parameters c).In-Ok in
    (c.in_ok-request_of-in-Ok.ensures.locked locked same).1.parameters ∙ ap (λ found. unwrap_or (all_of (codes "PARAM") found) []) rows

pub returns-in_ok-request_of-in-Ok-clause-senders : goal.returns-in_ok-request_of-in-Ok-clause-senders
returns-in_ok-request_of-in-Ok-clause-senders c locked same =
    let rows = rows_read (goal.at.returns-in_ok-request_of-in-Ok-clause-senders c).In-Ok in
    subst (λ (r : List Row). IsSenderCount (one_of (codes "senders") r) locked.senders) rows (c.in_ok-request_of-in-Ok.ensures.locked locked same).2

pub returns-in_ok-request_of-in-Ok-clause-lanes : goal.returns-in_ok-request_of-in-Ok-clause-lanes
returns-in_ok-request_of-in-Ok-clause-lanes c lanes same =
    let at = (goal.at.returns-in_ok-request_of-in-Ok-clause-lanes c).In-Ok in
    let asked = c.in_ok-request_of-in-Ok.ensures.lanes lanes same in
    (no_fault at, sym (name_read at) ∙ asked.0)

pub returns-in_ok-request_of-in-Ok-clause-lanes_seed : goal.returns-in_ok-request_of-in-Ok-clause-lanes_seed
returns-in_ok-request_of-in-Ok-clause-lanes_seed c lanes same =
    let rows = rows_read (goal.at.returns-in_ok-request_of-in-Ok-clause-lanes_seed c).In-Ok in
    (c.in_ok-request_of-in-Ok.ensures.lanes lanes same).1.seed ∙ ap (first_of (codes "seed")) rows

pub returns-in_ok-request_of-in-Ok-clause-lanes_parameters : goal.returns-in_ok-request_of-in-Ok-clause-lanes_parameters
returns-in_ok-request_of-in-Ok-clause-lanes_parameters c lanes same =
    let rows = rows_read (goal.at.returns-in_ok-request_of-in-Ok-clause-lanes_parameters c).In-Ok in
    (c.in_ok-request_of-in-Ok.ensures.lanes lanes same).1.parameters ∙ ap (λ found. unwrap_or (all_of (codes "PARAM") found) []) rows

pub returns-in_ok-request_of-in-Ok-clause-lanes_senders : goal.returns-in_ok-request_of-in-Ok-clause-lanes_senders
returns-in_ok-request_of-in-Ok-clause-lanes_senders c lanes same =
    let rows = rows_read (goal.at.returns-in_ok-request_of-in-Ok-clause-lanes_senders c).In-Ok in
    subst (λ (r : List Row). IsSenderCount (one_of (codes "senders") r) lanes.by.senders) rows (c.in_ok-request_of-in-Ok.ensures.lanes lanes same).2

pub returns-in_ok-request_of-in-Ok-clause-monitors : goal.returns-in_ok-request_of-in-Ok-clause-monitors
returns-in_ok-request_of-in-Ok-clause-monitors c lanes same =
    let rows = rows_read (goal.at.returns-in_ok-request_of-in-Ok-clause-monitors c).In-Ok in
    subst (λ (r : List Row). IsMonitorCount (one_of (codes "monitors") r) lanes.monitors) rows (c.in_ok-request_of-in-Ok.ensures.lanes lanes same).3

pub returns-in-Err-clause-help : goal.returns-in-Err-clause-help
returns-in-Err-clause-help c =
    let words : List Text = map (λ w. w.now) c.args.words.now in
    let line = c.in_ok-command.ensures in
    let kinds = c.in-Err.ensures.kinds (ap is_simple_and_free line ∙ line_is_free) in
    IfOk-weaker c.without_matches.result _ _
    (λ r h text is_help. help_asked_of (app_of c.in_ok-command.command) words c.in-Err.error line kinds (h text is_help))
    c.without_matches.ensures.help

pub returns-in-Err-clause-mistake : goal.returns-in-Err-clause-mistake
returns-in-Err-clause-mistake c =
    let words : List Text = map (λ w. w.now) c.args.words.now in
    let line = c.in_ok-command.ensures in
    let kinds = c.in-Err.ensures.kinds (ap is_simple_and_free line ∙ line_is_free) in
    IfErr-weaker c.without_matches.result _ _
    (λ fault h text is_mistake. mistake_made_in (app_of c.in_ok-command.command) words c.in-Err.error line kinds (h text is_mistake))
    c.without_matches.ensures.mistake

pub returns-in_err-request_of-in-Ok-clause-shown : goal.returns-in_err-request_of-in-Ok-clause-shown
returns-in_err-request_of-in-Ok-clause-shown c = memory_is_no_mistake c.from_residual-in_err-request_of-in-Ok.result _ c.from_residual-in_err-request_of-in-Ok.ensures.1
