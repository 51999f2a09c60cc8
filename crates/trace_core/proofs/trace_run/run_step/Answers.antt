use Rattle.std.proofs.Common.{◌≡◌, ◌-◌, drop, length, map, refl, take}
use Rattle.std.proofs.lemmas.Result.{on_ok_weaker}
use Rattle.journal_core.specs.Notes.{note_of}
use Rattle.trace_core.proofs.TraceRunLemmas.{own_notes, step_told}
use Rattle.trace_core.proofs.trace_run.run_step.Goals.{After-notes}
use Rattle.trace_core.proofs.trace_run.run_step.Goals as goal

-- the step's notes are those of its events
are_own : (c : After-notes) → take (length c.notes.result.now - length c.notes-first.result.now) (drop (length c.notes-first.result.now) c.notes.result.now) ≡ map note_of (c.in_ok-answer.ensures {u = tt}).made.made
are_own c =
    let takes = (c.in_ok-answer.ensures {u = tt}).made in
    own_notes c.args.sched.now.standing.events c.make_step.new.sched.standing.events takes.made _ takes.journal
    (rw (c.notes.ensures, c.recorder-2.ensures.told, c.notes-first.ensures, c.recorder.ensures.told) refl)

pub returns-clause-made : goal.returns-clause-made
returns-clause-made c =
    let answered = c.in_ok-answer.ensures {u = tt} in
    step_told c.step.result c.args.step.now c.in_ok-answer.answer c.args.sched.now c.make_step.new.sched c.args.report.now c.step.new.self _ answered.made answered.params answered.seed (are_own (goal.at.returns-clause-made c).After-notes) c.step.ensures

pub returns-clause-seen : goal.returns-clause-seen
returns-clause-seen c = on_ok_weaker c.step.result (λ _. (c.in_ok-answer.ensures {u = tt}).seen) c.step.ensures
