use Rattle.std.proofs.Common.{◌∙◌, refl, sym, arith}
use Rattle.std.proofs.lemmas.Bool.{le-ltb, lt-ltb}
use Rattle.row_core.proofs.reader.TraceRows.interpret.Goals as goal

pub returns-then-is_blank-clause-says : goal.returns-then-is_blank-clause-says
returns-then-is_blank-clause-says c = λ steps. let blank = sym c.is_blank.ensures ∙ c.if-is_blank.true in rw blank refl

pub returns-then-self-gt-MAX_ROWS-clause-fault : goal.returns-then-self-gt-MAX_ROWS-clause-fault
returns-then-self-gt-MAX_ROWS-clause-fault c =
    let filled = sym c.is_blank.ensures ∙ c.if-is_blank.false in
    let many = lt-ltb 1000000 c.args.self.now.row_number (omega arith) in
    let is = c.fault.ensures in
    (rw is (λ e. cc e), rw is (λ e. cc e), λ steps. rw (filled, many, is) refl)

pub returns-in-Ok-clause-says : goal.returns-in-Ok-clause-says
returns-in-Ok-clause-says c = λ steps.
    let filled = sym c.is_blank.ensures ∙ c.if-is_blank.false in
    let few = le-ltb 1000000 c.args.self.now.row_number (omega arith) in
    let tells = sym c.tells_version.ensures ∙ c.if-tells_version.true in
    let read = sym c.read_version.ensures.value ∙ c.in-Ok.is in
    rw (filled, few, tells, read) refl

pub returns-in-Err-clause-fault : goal.returns-in-Err-clause-fault
returns-in-Err-clause-fault c =
    let filled = sym c.is_blank.ensures ∙ c.if-is_blank.false in
    let few = le-ltb 1000000 c.args.self.now.row_number (omega arith) in
    let tells = sym c.tells_version.ensures ∙ c.if-tells_version.true in
    let read = sym c.read_version.ensures.value ∙ c.in-Err.is in
    let is = c.fault-in-Err.ensures in
    (rw is c.in-Err.ensures.fault, rw is c.in-Err.ensures.memory, λ steps. rw (filled, few, tells, read, is) refl)

pub returns-in-Ok-read_row-clause-says : goal.returns-in-Ok-read_row-clause-says
returns-in-Ok-read_row-clause-says c = λ steps.
    let filled = sym c.is_blank.ensures ∙ c.if-is_blank.false in
    let few = le-ltb 1000000 c.args.self.now.row_number (omega arith) in
    let tells = sym c.tells_version.ensures ∙ c.if-tells_version.false in
    let read = sym c.read_row.ensures.value ∙ c.in-Ok-read_row.is in
    rw (filled, few, tells, read) refl

pub returns-in-Err-read_row-clause-fault : goal.returns-in-Err-read_row-clause-fault
returns-in-Err-read_row-clause-fault c =
    let filled = sym c.is_blank.ensures ∙ c.if-is_blank.false in
    let few = le-ltb 1000000 c.args.self.now.row_number (omega arith) in
    let tells = sym c.tells_version.ensures ∙ c.if-tells_version.false in
    let read = sym c.read_row.ensures.value ∙ c.in-Err-read_row.is in
    let is = c.fault-in-Err-read_row.ensures in
    (rw is c.in-Err-read_row.ensures.fault, rw is c.in-Err-read_row.ensures.memory, λ steps. rw (filled, few, tells, read, is) refl)
