use Rattle.std.proofs.Common.{◌∙◌, ◌++◌, ◌∷◌, [], ap, refl, sym}
use Rattle.std.proofs.lemmas.Option.{slice_get_past, slice_get_read}
use Rattle.link_picture.proofs.NameLemmas.{name_more, name_same}
use Rattle.link_picture.proofs.content.names_of.Goals as goal
use Rattle.link_picture.proofs.content.names_of.Goals.{in-Some+in_ok-push, in_default}

pub loop-number-preserved : goal.loop-number-preserved
loop-number-preserved c =
    let chosen = c.args.chosen.now in
    let tuples = c.args.tuples.now in
    let low = c.loop-number-test.true in
    elim c.match-get.branch [
      | in-Some+in_ok-push w ↦
          let look = w.in-Some.ensures.lookup in
          let within = look.3 in
          let at = slice_get_read tuples _ _ w.in-Some.tuple.now refl within.0 look.1 in
          rw w.names-is ((w.in_ok-push.ensures {u = tt}).items ∙ ap (λ l. l ++ w.in-Some.tuple.now ∷ []) c.loop-number.invariant ∙ sym (name_more chosen tuples c.loop-number.number-index 0 w.in-Some.tuple.now low at))
      | in_default w ↦
          let look = (w.in_default.ensures {u = tt}).lookup in
          let at = slice_get_past tuples _ look.3 in
          rw w.names-is (c.loop-number.invariant ∙ sym (name_same chosen tuples c.loop-number.number-index 0 low at))
    ]
