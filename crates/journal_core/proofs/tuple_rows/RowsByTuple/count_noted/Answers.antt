use Rattle.std.proofs.Common.{◌≡◌, List, take, length, arith, ap, ◌∙◌, get_or}
use Rattle.std.proofs.lemmas.List.{length-map, take_all}
use Rattle.journal_core.specs.declared.note.Note.{Note}
use Rattle.journal_core.specs.Notes.{note_of}
use Rattle.journal_core.proofs.TallyLemmas.{noted_at}
use Rattle.journal_core.proofs.tuple_rows.RowsByTuple.count_noted.Goals as goal

pub count-requires-clause-noted : goal.count-requires-clause-noted
count-requires-clause-noted c =
    let events = c.args.noted.now.events in
    let as_many = ap length c.notes-notes.ensures ∙ length-map events note_of in
    rw c.told.ensures (noted_at events c.loop-place.place _ _ (omega (arith, as_many)) (ap (λ (ns : List Note). get_or ns c.loop-place.place _) c.notes-notes.ensures))

pub count-requires-clause-follow : goal.count-requires-clause-follow
count-requires-clause-follow c = rw c.told.ensures c.requires.follow

pub returns : goal.returns
returns c =
    let events = c.args.noted.now.events in
    let as_many = ap length c.notes-notes.ensures ∙ length-map events note_of in
    let all : take c.loop-place.place events ≡ events = take_all _ _ (omega (arith, as_many)) in
    rw all at c.loop-place.invariant
