use Rattle.std.proofs.Common.{◌≡◌, ◌<◌, ◌∙◌, ◌+◌, ◌∷◌, [], ap, arith, drop, get_or, inl, inr, length, length-append, rules, subst, sym, ⊎_elim}
use Rattle.std.proofs.lemmas.Result.{err_from_is_err_and}
use Rattle.std.specs.Vec.Iter.{into_iter_items, into_iter_len}
use Rattle.port_core.specs.declared.lane_sender.LaneDone.{LaneDone}
use Rattle.run_core.specs.DeviceRuns.{IsAny, PumpsAll, last_moment}
use Rattle.run_core.proofs.DeviceRunLemmas.{empties_next, pumps_keep}
use Rattle.run_core.proofs.JournalLemmas.{all_push}
use Rattle.trace_core.specs.declared.journal_report.SenderRow.{SenderRow}
use Rattle.run_core.proofs.LaneRunLemmas.{done_more, drop_ended, drop_next, rows_more, same_more}
use Rattle.run_core.proofs.lanes.rows_of.Goals as goal
use Rattle.run_core.proofs.lanes.rows_of.Given.{Over}
use Rattle.run_core.proofs.lanes.rows_of.Goals.{In-Some}

-- the next sender is that of the next lane
next : (g : Over) (c : In-Some g) → (c.loop-one.lane < length c.args.done.items) × ((d : LaneDone) → get_or c.args.done.items c.loop-one.lane d ≡ c.in-Some.one)
    × (drop (c.loop-one.lane + 1) c.args.done.items ≡ into_iter_items c.next.new.self)
next g c =
    let rest = into_iter_items c.next.new.self in
    let cut : into_iter_items c.loop-one.one-iterator ≡ c.in-Some.one ∷ rest = search rules in
    drop_next c.args.done.items c.loop-one.lane c.in-Some.one rest (sym c.loop-one.invariant.0 ∙ cut)

pub row_of-requires-clause-fits : goal.row_of-requires-clause-fits
row_of-requires-clause-fits g c =
    let n = next g (goal.at.row_of-requires-clause-fits g c).In-Some in
    rw (c.loop-one.invariant.4.rings, ← (n.1 c.in-Some.one)) (c.requires.each c.loop-one.lane c.in-Some.one n.0)

pub loop-one-preserved : goal.loop-one-preserved
loop-one-preserved g c =
    let n = next g (goal.at.loop-one-preserved g c).In-Some in
    let kept = c.loop-one.invariant in
    let row = c.in_ok-row_of.field-0 in (
      sym n.2,
      search rules,
      omega (arith, n.0),
      rw c.in_ok-push.ensures.items (omega (arith, length-append c.loop-one.rows.items (row ∷ []), kept.3)),
      same_more c.args.device.now c.loop-one.device c.row_of.new.device kept.4 c.row_of.ensures.same,
      rw c.in_ok-push.ensures.items (rows_more c.loop-one.device.engine.sched.standing.events c.row_of.new.device.engine.sched.standing.events c.args.done.items c.loop-one.rows.items
          c.loop-one.lane c.in-Some.one row kept.3 n.1 c.in_ok-row_of.ensures.row c.row_of.ensures.others kept.5),
      empties_next c.args.device.now.engine.steps c.loop-one.device.engine.steps c.row_of.new.device.engine.steps c.loop-one.lane kept.6 c.in_ok-row_of.ensures.emptied,
      (λ free. rw c.in_ok-push.ensures.items (all_push (λ (row : SenderRow). row.left ≡ 0) c.loop-one.rows.items row (kept.7 free) (c.in_ok-row_of.ensures.none_left (pumps_keep IsAny c.args.device.now.engine.steps c.loop-one.device.engine.steps c.loop-one.lane kept.6 free)))),
      done_more c.args.done.items c.loop-one.lane c.in-Some.one n.1 c.in_ok-row_of.ensures.done kept.8,
    )

pub returns-clause-rows : goal.returns-clause-rows
returns-clause-rows g c i r d less =
    let ended : into_iter_len c.loop-one.one-iterator ≡ 0 = search rules in
    let none : length (drop c.loop-one.lane c.args.done.items) ≡ 0 = ap length (sym c.loop-one.invariant.0) ∙ sym c.loop-one.invariant.1 ∙ ended in
    c.loop-one.invariant.5 i r d (omega (arith, less, drop_ended c.args.done.items c.loop-one.lane none))

pub returns-clause-emptied : goal.returns-clause-emptied
returns-clause-emptied g c =
    let ended : into_iter_len c.loop-one.one-iterator ≡ 0 = search rules in
    let none : length (drop c.loop-one.lane c.args.done.items) ≡ 0 = ap length (sym c.loop-one.invariant.0) ∙ sym c.loop-one.invariant.1 ∙ ended in
    let all : c.loop-one.lane ≡ length c.args.device.now.lanes = omega (arith, drop_ended c.args.done.items c.loop-one.lane none, c.loop-one.invariant.2, c.requires.number.0) in
    subst (λ n. PumpsAll IsAny (last_moment c.args.device.now.engine.steps) c.args.device.now.engine.steps n c.loop-one.device.engine.steps) all c.loop-one.invariant.6

pub returns-in_err-row_of-clause-fault : goal.returns-in_err-row_of-clause-fault
returns-in_err-row_of-clause-fault g c =
    let n = next g (goal.at.returns-in_err-row_of-clause-fault g c).In-Some in
    let p = err_from_is_err_and c.from_residual.result c.from_residual.ensures.1 in
    rw (p.1, p.2) (⊎_elim (λ memory. inl memory) (λ t. inr (c.loop-one.lane, n.0, λ d. rw (n.1 d) t)) c.in_err-row_of.ensures.fault)
