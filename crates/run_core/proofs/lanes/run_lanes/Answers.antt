use Rattle.std.proofs.Common.{◌≡◌, ◌∙◌, [], length, map, rules, sym}
use Rattle.std.proofs.lemmas.Bool.{true≢false}
use Rattle.sched_core.specs.Schedulers.{discipline_of}
use Rattle.run_core.proofs.DeviceRunLemmas.{journal_closed}
use Rattle.run_core.proofs.LaneRunLemmas.{lanes_journal}
use Rattle.run_core.proofs.lanes.run_lanes.Goals as goal

-- the run came to its end
pub prove-unreachable-requires : goal.prove-unreachable-requires
prove-unreachable-requires g c =
    let e = c.in_ok-run.run'.0 in
    let is = journal_closed (discipline_of e.sched) (length c.deref-3.result.now) c.args.steps.now [] e.steps e.sched.standing c.is_closed-closed.result
    c.is_closed-closed.ensures.value c.run_of_steps.ensures c.in_ok-run.ensures.made in
    true≢false (sym is ∙ c.if-prove.true)

pub returns-clause-journal : goal.returns-clause-journal
returns-clause-journal g c =
    let has : map (λ l. l.items) c.deref-3.result.now ≡ map (λ l. map (λ call. call.1) l.items) c.in_ok-calls.calls.items = search rules in
    lanes_journal c.args.params c.args.seed c.args.senders c.args.steps.now c.in_ok-calls.calls.items c.deref-3.result.now c.in_ok-run.run'.0 c.in_ok-run.run'.1.items
    c.in_ok-calls.ensures has c.in_ok-run.ensures.rows c.in_ok-run.ensures.params.0 c.in_ok-run.ensures.params.1 c.run_of_steps.ensures
    c.in_ok-run.ensures.made (sym c.is_closed-closed.ensures.journal ∙ c.if-prove.false) c.in_ok-run.ensures.idle c.in_ok-run.ensures.none_left
