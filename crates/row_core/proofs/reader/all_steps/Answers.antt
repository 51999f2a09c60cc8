use Rattle.std.proofs.Common.{◌≡◌, Err, true, inl, inr, refl, arith, rules}
use Rattle.std.specs.Result.{is_ok}
use Rattle.row_core.proofs.RecordLemmas.{few_turns, reads_up_to}
use Rattle.row_core.specs.Traces.{rows_so_far}
use Rattle.row_core.proofs.reader.all_steps.Goals as goal
use Rattle.row_core.proofs.reader.all_steps.Goals.{in-NoStep, in-Row+else-is_err}

pub returns-in_err-next-clause-fault : goal.returns-in_err-next-clause-fault
returns-in_err-next-clause-fault g c =
    let err : c.from_residual.result ≡ Err c.in_err-next.field-0.0 = search rules in
    rw err (λ text start. c.in_err-next.ensures.fault text _ _ (c.loop-turn.invariant text start))

pub returns-then-is_err-clause-fault : goal.returns-then-is_err-clause-fault
returns-then-is_err-clause-fault g c = λ text start.
    let taken = c.loop-turn.invariant text start in
    inr (inl (rw (c.fault.ensures, c.row_number-row.ensures) (refl, reads_up_to text c.loop-turn.rows.records taken.before taken.read (rows_so_far c.loop-turn.rows c.loop-turn.steps.items) taken.asked)))

pub returns-in-End-clause-steps : goal.returns-in-End-clause-steps
returns-in-End-clause-steps g c = λ text start. (rw c.in-End.is at c.in_ok-next.ensures.taken) text _ _ (c.loop-turn.invariant text start)

pub loop-turn-preserved : goal.loop-turn-preserved
loop-turn-preserved g c = elim c.match-branch-2.branch [
  | in-NoStep w ↦ λ text start. rw w.steps-is ((rw w.in-NoStep.is at c.in_ok-next.ensures.taken) text _ _ (c.loop-turn.invariant text start))
  | in-Row+else-is_err w ↦
      let good : is_ok w.push.result ≡ true = search rules in
      let items = rw good at w.push.ensures.items in
      λ text start. rw (w.steps-is, items) ((rw w.in-Row.is at c.in_ok-next.ensures.taken) text _ _ (c.loop-turn.invariant text start))
]

pub returns-clause-fault : goal.returns-clause-fault
returns-clause-fault g c = λ text start. absurd (omega (arith, few_turns text _ _ _ (c.loop-turn.invariant text start)))
