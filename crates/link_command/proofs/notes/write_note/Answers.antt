use Rattle.link_command.proofs.NoteLemmas.{written_or_failed}
use Rattle.link_command.proofs.notes.write_note.Goals as goal

pub returns : goal.returns
returns g c = written_or_failed c.write_text.result _ _ _ c.write_text.ensures.whole c.write_text.ensures.gave_up c.write_text.ensures.front
