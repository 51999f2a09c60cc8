use Rattle.std.proofs.Common.{◌∙◌, map, subst, sym}
use Rattle.std.proofs.KnownBytes.{Keeps-refl}
use Rattle.link_command.specs.Runs.{IsAsked}
use Rattle.link_command.specs.declared.faults.ProgramFault.TheVariants.{Write}
use Rattle.link_command.proofs.RunLemmas.{fails_unwritten}
use Rattle.link_command.proofs.StatusLemmas.{fails}
use Rattle.link_command.proofs.program_run.program.Goals as goal

pub returns-in-Ok-clause-fault : goal.returns-in-Ok-clause-fault
returns-in-Ok-clause-fault g c =
    let front = c.in-Err-write_text.ensures.front in
    let asked = subst (λ text. IsAsked (map (λ w. w.now) c.args.words.now) (g.R.Source.remaining c.args.reader.now) text) (sym c.deref.ensures.value) c.in-Ok.ensures.text in
    λ bad. (Write, (c.deref.result.now, asked, front.0, front.1), c.tell.ensures)

pub returns-clause-fault : goal.returns-clause-fault
returns-clause-fault g c =
    let old = g.W.Write.contents c.args.writer.now in
    let unwritten =
    fails_unwritten _ (map (λ w. w.now) c.args.words.now) (g.R.Source.remaining c.args.reader.now) old old c.in-Err.fault c.in-Err.ensures.fault (Keeps-refl old) in
    λ bad. (c.in-Err.fault, unwritten, c.tell-in-Err.ensures)

pub returns-in-Ok-write_text-clause-quiet : goal.returns-in-Ok-write_text-clause-quiet
returns-in-Ok-write_text-clause-quiet g c = λ well input faults.
    let written = rw c.deref-in-Ok-write_text.ensures.value at c.write_note.ensures in
    (c.text_asked.new.notes, c.text_asked.ensures.quiet input faults, (c.in-Ok.report.note.items, c.in-Ok.ensures.note, written))

pub returns-clause-answer : goal.returns-clause-answer
returns-clause-answer g c = λ well. absurd (fails c.in-Err.fault (sym c.tell-in-Err.ensures ∙ well))
