use Rattle.std.proofs.Common.{◌≡◌, ◌∙◌, ◌+◌, ◌++◌, ◌∷◌, [], Some, ap, length, refl, sym, arith}
use Rattle.std.proofs.lemmas.Bool.{le-ltb}
use Rattle.std.proofs.lemmas.List.{length_push}
use Rattle.row_core.proofs.RecordLemmas.{few_turns, rows_fault}
use Rattle.row_core.specs.Traces.{reader_of}
use Rattle.link_command.specs.ArrivalTexts.{IsRowOfStep}
use Rattle.link_command.proofs.ArrivalLemmas.{arrivals_push, before_push, last_more, no_memory, none_so_far, of_trace, place_fault, same_more}
use Rattle.link_command.proofs.arrivals.arrivals_of.Goals as goal
use Rattle.link_command.proofs.arrivals.arrivals_of.Goals.{in-NoStep, in-Row+in-Ok-arrival_of+else-is_err}

pub loop-turn-init : goal.loop-turn-init
loop-turn-init g c = λ text start. rw (c.new-steps.ensures.items, c.new-arrivals.ensures.items) (none_so_far text c.args.rows.now start)

pub returns-in-Err-clause-fault : goal.returns-in-Err-clause-fault
returns-in-Err-clause-fault g c = λ text start.
    let stops = c.in-Err.ensures.fault text _ _ (c.loop-turn.invariant text start).taken in
    rw c.fault_at.ensures (rows_fault (Some text) text g.C.Records.Cut (reader_of c.next.new.self) c.in-Err.fault refl stops _ start.small)

pub returns-in-Err-clause-memory : goal.returns-in-Err-clause-memory
returns-in-Err-clause-memory g c = λ memory. c.in-Err.ensures.memory (of_trace c.in-Err.fault.what (rw c.fault_at.ensures at memory))

pub returns-in-End-clause-arrivals : goal.returns-in-End-clause-arrivals
returns-in-End-clause-arrivals g c = λ text start. (c.loop-turn.invariant text start).are

pub returns-in-End-clause-text : goal.returns-in-End-clause-text
returns-in-End-clause-text g c = λ text start.
    let so_far = c.loop-turn.invariant text start in
    let read = (rw c.in-End.is at c.in-Ok.ensures.taken) text _ _ so_far.taken in
    record { steps = c.loop-turn.steps.items; read = rw (le-ltb 134217728 (length text) start.small) read; same = so_far.same }

pub first_fault-requires : goal.first_fault-requires
first_fault-requires g c = λ memory. no_memory c.loop-turn.last c.in-Row.step c.in-Err-arrival_of.what c.in-Err-arrival_of.ensures.fault memory

pub returns-in-Err-arrival_of-clause-fault : goal.returns-in-Err-arrival_of-clause-fault
returns-in-Err-arrival_of-clause-fault g c = λ text start.
    let before = c.loop-turn.invariant text start in
    let steps = c.loop-turn.steps.items in
    let step = c.in-Row.step in
    let taken = (rw c.in-Row.is at c.in-Ok.ensures.taken) text _ _ before.taken in
    let counted = rw c.in-Row.is at c.in-Ok.ensures.number in
    let fault = place_fault steps step c.in-Err-arrival_of.what c.loop-turn.arrivals.items c.loop-turn.last before.are before.same before.last_is c.in-Err-arrival_of.ensures.fault in
    let row_is : IsRowOfStep text c.row_number-row.result (length steps) = record {
      rows = c.loop-turn.rows;
      turns = _;
      steps = steps;
      taken = before.taken;
      number = c.row_number-row.ensures;
      before = refl;
      step = step;
      after = c.next.new.self;
      asked = taken;
      counted = counted ∙ ap (λ n. n + 1) (sym c.row_number-row.ensures);
    } in
    (rw c.and-steps.ensures.items at c.first_fault.ensures.fault) text _ (length steps) taken fault row_is

pub returns-then-is_err-clause-fault : goal.returns-then-is_err-clause-fault
returns-then-is_err-clause-fault g c = λ text start.
    let taken = (rw c.in-Row.is at c.in-Ok.ensures.taken) text _ _ (c.loop-turn.invariant text start).taken in
    (rw c.and-steps.ensures.items at c.first_fault-then-is_err.ensures.fault) text _ 0 taken tt tt

pub loop-turn-preserved : goal.loop-turn-preserved
loop-turn-preserved g c = λ text start.
    let so_far = c.loop-turn.invariant text start in
    elim c.match-next-2.branch [
      | in-NoStep w ↦
          rw (w.steps-is, w.arrivals-is, w.last-is) (record {
            taken = (rw w.in-NoStep.is at c.in-Ok.ensures.taken) text _ _ so_far.taken;
            are = so_far.are;
            count = omega (arith, so_far.count);
            before = so_far.before;
            same = so_far.same;
            last_is = so_far.last_is;
          })
      | in-Row+in-Ok-arrival_of+else-is_err w ↦
          let arrivals = c.loop-turn.arrivals.items in
          let arrival = w.in-Ok-arrival_of.arrival in
          let came = w.in-Ok-arrival_of.ensures.moment in
          let few = few_turns text _ _ _ so_far.taken in
          let items : w.push.new.self.items ≡ arrivals ++ arrival ∷ [] = rw (w.is_err.ensures.negation, w.if-is_err.false) at w.push.ensures.items in
          rw (w.steps-is, w.and-steps.ensures.items, w.arrivals-is, items, w.last-is) (record {
            taken = (rw w.in-Row.is at c.in-Ok.ensures.taken) text _ _ so_far.taken;
            are = arrivals_push arrivals arrival c.loop-turn.last so_far.are so_far.before came.0 came.1 (omega (arith, few, so_far.count));
            count = omega (arith, length_push arrivals arrival, so_far.count);
            before = before_push arrivals arrival c.loop-turn.last so_far.before came.0;
            same = same_more c.loop-turn.steps.items w.in-Row.step arrivals arrival so_far.same w.in-Ok-arrival_of.ensures.step;
            last_is = last_more arrivals arrival;
          })
    ]

pub returns-clause-fault : goal.returns-clause-fault
returns-clause-fault g c = λ text start. absurd (omega (arith, few_turns text _ _ _ (c.loop-turn.invariant text start).taken))
