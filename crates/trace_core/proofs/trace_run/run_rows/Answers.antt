use Rattle.std.proofs.Common.{◌≡◌, [], Err, arith, rules}
use Rattle.trace_core.specs.declared.trace_run.RunFault.TheVariants.{Trace}
use Rattle.row_core.proofs.RecordLemmas.{few_turns}
use Rattle.trace_core.proofs.TraceRunLemmas.{runs_more, runs_none}
use Rattle.trace_core.proofs.trace_run.run_rows.Goals as goal
use Rattle.trace_core.proofs.trace_run.run_rows.Goals.{in-NoStep, in-Row+in_ok-run_step-in-Row}

pub loop-turn-init : goal.loop-turn-init
loop-turn-init g c = record { runs = λ text start. ([], start, runs_none c.args.sched.now c.args.report.now); seen = c.requires }

pub returns-in_err-next-clause-trace : goal.returns-in_err-next-clause-trace
returns-in_err-next-clause-trace g c =
    let err : c.from_residual.result ≡ Err (Trace c.in_err-next.field-0.0) = search rules in
    rw err (λ why is text start.
    let same : c.in_err-next.field-0.0 ≡ why = cc is in
    rw (← same) (c.in_err-next.ensures.fault text _ _ (c.loop-turn.invariant.runs text start).1))

pub returns-in-End-clause-run : goal.returns-in-End-clause-run
returns-in-End-clause-run g c = λ text start.
    let run = c.loop-turn.invariant.runs text start in
    (run.0, (rw c.in-End.is at c.in_ok-next.ensures.taken) text _ _ run.1, run.2)

pub loop-turn-preserved : goal.loop-turn-preserved
loop-turn-preserved g c = elim c.match-branch-2.branch [
  | in-NoStep w ↦
      rw (w.sched-is, w.report-is, w.tally-is) (record {
        runs = λ text start.
            let run = c.loop-turn.invariant.runs text start in
            (run.0, (rw w.in-NoStep.is at c.in_ok-next.ensures.taken) text _ _ run.1, run.2);
        seen = c.loop-turn.invariant.seen;
      })
  | in-Row+in_ok-run_step-in-Row w ↦
      rw (w.sched-is, w.report-is, w.tally-is) (record {
        runs = λ text start.
            let run = c.loop-turn.invariant.runs text start in
            let more = runs_more run.0 w.in-Row.step c.args.sched.now c.loop-turn.sched w.run_step.new.sched c.args.report.now c.loop-turn.report w.run_step.new.report run.2 w.in_ok-run_step-in-Row.ensures.made in
            (_, (rw w.in-Row.is at c.in_ok-next.ensures.taken) text _ _ run.1, more);
        seen = w.in_ok-run_step-in-Row.ensures.seen;
      })
]

pub returns-clause-trace : goal.returns-clause-trace
returns-clause-trace g c = λ why is text start. absurd (omega (arith, few_turns text _ _ _ (c.loop-turn.invariant.runs text start).1))
