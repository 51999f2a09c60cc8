use Rattle.std.proofs.Common.{codes, refl, ◌∙◌}
use Rattle.clap.specs.Words.{found_of}
use Rattle.clap.proofs.WalkLemmas.{raw_values-rows}
use Rattle.link_command.proofs.command_line.parameters_of.Goals.{in-Some+in_ok-extend_from_slice, in_default}
use Rattle.link_command.proofs.command_line.parameters_of.Goals as goal

pub returns : goal.returns
returns c =
    let behind = raw_values-rows (found_of c.args.matches.now) (codes "PARAM") in
    elim c.match-get_strs.branch [
      | in-Some+in_ok-extend_from_slice w ↦
          let given = w.in-Some.ensures ∙ behind in
          rw (w.parameters-is, w.in_ok-extend_from_slice.ensures.items, c.new-parameters.ensures.items, ← given) refl
      | in_default w ↦
          let missing = w.in_default.ensures ∙ behind in
          rw (w.parameters-is, c.new-parameters.ensures.items, ← missing) refl
    ]
