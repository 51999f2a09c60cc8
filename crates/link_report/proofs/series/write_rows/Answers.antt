use Rattle.std.proofs.Common.{◌≡◌, ◌∙◌, ◌++◌, ◌∷◌, [], ap, arith, cond, get_or, refl, sym, take}
use Rattle.std.proofs.lemmas.List.{take_all}
use Rattle.link_report.proofs.SeriesLemmas.{rows_after, wrote_all, wrote_more, wrote_none}
use Rattle.link_report.proofs.series.write_rows.Goals as goal
use Rattle.link_report.proofs.series.write_rows.Goals.{then-branch+in_ok-push, else-branch}

pub loop-number-init : goal.loop-number-init
loop-number-init c = λ are. rw c.new-rows.ensures.items (wrote_none c.args.queue c.args.from c.args.happenings.now.items c.args.table.now)

pub loop-number-preserved : goal.loop-number-preserved
loop-number-preserved c = λ are.
    let told = c.in_ok-write_row.ensures {u = tt} in
    let numbers = c.args.numbers.now in
    let i = c.loop-number.number-index in
    let number = get_or numbers i 0 in
    let rows = c.loop-number.rows.items in
    let waits = c.in_ok-write_row.field-0 in
    elim c.if-branch.branch [
      | then-branch+in_ok-push w ↦
          let pushed = (w.in_ok-push.ensures {u = tt}).items ∙ sym (ap (λ b. cond b (rows ++ number ∷ []) rows) w.if-branch.true) in
          rw w.rows-is (wrote_more c.args.queue c.args.from c.args.happenings.now.items numbers i 0 c.args.table.now c.loop-number.table c.write_row.new.table c.loop-number.happenings.items c.write_row.new.happenings.items rows w.push.new.self.items number waits are (omega arith) refl
          (c.loop-number.invariant are) told.text told.happenings told.waits pushed)
      | else-branch w ↦
          let pushed = sym (ap (λ b. cond b (rows ++ number ∷ []) rows) w.if-branch.false) in
          rw w.rows-is (wrote_more c.args.queue c.args.from c.args.happenings.now.items numbers i 0 c.args.table.now c.loop-number.table c.write_row.new.table c.loop-number.happenings.items c.write_row.new.happenings.items rows rows number waits are (omega arith) refl
          (c.loop-number.invariant are) told.text told.happenings told.waits pushed)
    ]

pub returns-clause-text : goal.returns-clause-text
returns-clause-text c = λ are.
    let all : take c.loop-number.number-index c.args.numbers.now ≡ c.args.numbers.now = take_all _ _ (omega arith) in
    let so = rw all at (c.loop-number.invariant are) in
    so.text

pub returns-clause-happenings : goal.returns-clause-happenings
returns-clause-happenings c = λ are.
    let all : take c.loop-number.number-index c.args.numbers.now ≡ c.args.numbers.now = take_all _ _ (omega arith) in
    let so = rw all at (c.loop-number.invariant are) in
    wrote_all c.args.queue c.args.from c.args.happenings.now.items c.args.numbers.now c.args.table.now c.loop-number.table c.loop-number.happenings.items c.loop-number.rows.items are so

pub returns-clause-rows : goal.returns-clause-rows
returns-clause-rows c = λ are.
    let all : take c.loop-number.number-index c.args.numbers.now ≡ c.args.numbers.now = take_all _ _ (omega arith) in
    let so = rw all at (c.loop-number.invariant are) in
    rows_after c.args.queue c.args.from c.args.happenings.now.items c.args.numbers.now c.args.table.now c.loop-number.table c.loop-number.happenings.items c.loop-number.rows.items are so
