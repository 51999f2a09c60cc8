use Rattle.std.proofs.Common.{inl, inr, ap, refl, subst, sym, ◌∷◌, [], ◌++◌}
use Rattle.csv.specs.Records.{fields_of}
use Rattle.row_core.proofs.RecordLemmas.{err_then, fault_behind, ok_then, reads_up_to, takes_more}
use Rattle.row_core.specs.Traces.{HasRead, rows_so_far, steps_told}
use Rattle.row_core.proofs.reader.TraceRows.next.Goals as goal

pub returns-in-Ok-false-clause-taken : goal.returns-in-Ok-false-clause-taken
returns-in-Ok-false-clause-taken g c = λ text turns steps taken.
    rw (c.in-Ok-false.ensures.end c.in-Ok-false.field-0-test text taken.before taken.read) (ap steps_told taken.asked)

pub returns-in-Err-clause-fault : goal.returns-in-Err-clause-fault
returns-in-Err-clause-fault g c = λ text turns steps taken.
    let upto = reads_up_to text c.args.self.now.records taken.before taken.read (rows_so_far c.args.self.now steps) taken.asked in
    inr (rw c.fault.ensures (elim c.in-Err.ensures.fault [
      | inl read ↦ inr (read, (upto, c.in-Err.ensures.failed read text taken.before taken.read))
      | inr memory ↦ inl (memory, upto)
    ]))

pub returns-in-Ok-true-clause-taken : goal.returns-in-Ok-true-clause-taken
returns-in-Ok-true-clause-taken g c =
    let fields = fields_of c.next_record.new.row in
    let more = c.in-Ok-true.ensures.more c.in-Ok-true.field-0-test in
    let same = sym c.interpret.ensures.same in
    let cut = record c.args.self.now { records = c.next_record.new.reader; row = c.next_record.new.row } in
    ok_then c.interpret.result c.interpret.ensures.says (λ next says.
    takes_more c.args.self.now cut c.interpret.new.self fields next (λ steps. refl)
    (λ text before read. subst (λ reader. HasRead text reader (before ++ fields ∷ [])) same (more text before read)) says)

pub returns-in-Ok-true-clause-fault : goal.returns-in-Ok-true-clause-fault
returns-in-Ok-true-clause-fault g c =
    let fields = fields_of c.next_record.new.row in
    let more = c.in-Ok-true.ensures.more c.in-Ok-true.field-0-test in
    let same = sym c.interpret.ensures.same in
    err_then c.interpret.result c.interpret.ensures.fault (λ fault is text turns steps taken.
    let read = subst (λ reader. HasRead text reader (taken.before ++ fields ∷ [])) same (more text taken.before taken.read) in
    inl (is.0, fault_behind text _ taken.before fields (rows_so_far c.args.self.now steps) fault read taken.asked (is.2 steps)))
