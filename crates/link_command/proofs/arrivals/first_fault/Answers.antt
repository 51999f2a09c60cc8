use Rattle.std.proofs.Common.{◌≡◌, ◌+◌, ◌++◌, ◌∷◌, [], ℕ, Some, length, refl, subst, arith}
use Rattle.std.proofs.lemmas.Bool.{le-ltb}
use Rattle.row_core.proofs.RecordLemmas.{few_turns, rows_fault}
use Rattle.row_core.specs.Traces.{HasTaken, IsFaultOf, reader_of}
use Rattle.link_command.proofs.ArrivalLemmas.{of_trace, own_stays, text_fault}
use Rattle.link_command.proofs.arrivals.first_fault.Goals as goal
use Rattle.link_command.proofs.arrivals.first_fault.Goals.{in-NoStep, in-Row}

pub returns-in-Err-clause-fault : goal.returns-in-Err-clause-fault
returns-in-Err-clause-fault g c = λ text turns place taken fault row_is.
    let now = c.loop-turn.invariant text turns place taken fault in
    let stops = c.in-Err.ensures.fault text _ _ now.0 in
    rw c.fault_at.ensures (rows_fault (Some text) text g.C.Records.Cut (reader_of c.next.new.self) c.in-Err.fault refl stops _ taken.small)

pub returns-in-Err-clause-memory : goal.returns-in-Err-clause-memory
returns-in-Err-clause-memory g c = λ memory. c.in-Err.ensures.memory (of_trace c.in-Err.fault.what (rw c.fault_at.ensures at memory))

pub returns-in-End-clause-memory : goal.returns-in-End-clause-memory
returns-in-End-clause-memory g c = λ memory. absurd (c.requires memory)

pub returns-in-End-clause-fault : goal.returns-in-End-clause-fault
returns-in-End-clause-fault g c = λ text turns place taken fault row_is.
    let now = c.loop-turn.invariant text turns place taken fault in
    let read = (rw c.in-End.is at c.in-Ok.ensures.taken) text _ _ now.0 in
    text_fault (IsFaultOf ⊥ g.C.Records.Cut) text c.loop-turn.steps.items place c.args.own (rw (le-ltb 134217728 (length text) taken.small) read) now.1 row_is

pub loop-turn-preserved : goal.loop-turn-preserved
loop-turn-preserved g c = λ text turns place taken fault.
    let now = c.loop-turn.invariant text turns place taken fault in
    let turn : turns + c.loop-turn._turn + 1 ≡ turns + (c.loop-turn._turn + 1) = omega arith in
    elim c.match-next-2.branch [
      | in-NoStep w ↦
          rw w.steps-is (subst (λ (n : ℕ). HasTaken text c.next.new.self n c.loop-turn.steps.items) turn ((rw w.in-NoStep.is at c.in-Ok.ensures.taken) text _ _ now.0), now.1)
      | in-Row w ↦
          let more = (rw w.in-Row.is at c.in-Ok.ensures.taken) text _ _ now.0 in
          rw (w.steps-is, w.and-steps.ensures.items)
          (subst (λ (n : ℕ). HasTaken text c.next.new.self n (c.loop-turn.steps.items ++ w.in-Row.step ∷ [])) turn more, own_stays c.loop-turn.steps.items w.in-Row.step place c.args.own now.1)
    ]

pub returns-clause-fault : goal.returns-clause-fault
returns-clause-fault g c = λ text turns place taken fault row_is.
    let now = c.loop-turn.invariant text turns place taken fault in
    absurd (omega (arith, few_turns text _ _ _ now.0))
