use Rattle.std.proofs.Common.{ap, codes, refl, unwrap_or, ◌≡◌, ◌∙◌, []}
use Rattle.clap.specs.Words.{all_of, first_of, found_of, rows_of}
use Rattle.clap.proofs.WalkLemmas.{first_value-rows, raw_values-rows}
use Rattle.command_core.specs.CommandLine.{rows_behind}
use Rattle.command_core.proofs.command_line.run_request.Goals.{In-Some, in-Some-get_strs+in_ok-extend_from_slice, in_default-get_strs}
use Rattle.command_core.proofs.command_line.run_request.Goals as goal

-- the rows of the subcommand that was entered
entered : (c : In-Some) → rows_of (found_of c.in-Some.found.now) ≡ rows_behind c.args.matches.now
entered c = ap (λ found. unwrap_or found []) c.in-Some.ensures.rows

pub returns-clause-seed : goal.returns-clause-seed
returns-clause-seed c =
    let rows = entered (goal.at.returns-clause-seed c).In-Some in
    c.get_str.ensures ∙ first_value-rows (found_of c.in-Some.found.now) (codes "seed") ∙ ap (first_of (codes "seed")) rows

pub returns-clause-parameters : goal.returns-clause-parameters
returns-clause-parameters c =
    let rows = entered (goal.at.returns-clause-parameters c).In-Some in
    let behind = raw_values-rows (found_of c.in-Some.found.now) (codes "PARAM") ∙ ap (all_of (codes "PARAM")) rows in
    elim c.match-get_strs.branch [
      | in-Some-get_strs+in_ok-extend_from_slice w ↦
          let given = w.in-Some-get_strs.ensures ∙ behind in
          rw (w.parameters-is, w.in_ok-extend_from_slice.ensures.items, c.new-parameters.ensures.items, ← given) refl
      | in_default-get_strs w ↦
          let missing = w.in_default-get_strs.ensures ∙ behind in
          rw (w.parameters-is, c.new-parameters.ensures.items, ← missing) refl
    ]
