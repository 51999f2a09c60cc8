use Rattle.std.proofs.Common.{◌≡◌, inl, inr, map, refl}
use Rattle.run_core.specs.Journals.{AreLanesJournal, AreLockedJournal}
use Rattle.program_core.proofs.FaultLemmas.{input_asked, lanes_fault_on, locked_fault_on, trace_fault_on}
use Rattle.program_core.proofs.RunLemmas.{answers_senders, answers_so, answers_watched, help_has_no_lanes, locked_has_no_lanes, on_ok, trace_has_no_lanes}
use Rattle.program_core.proofs.program_run.answer.Goals as goal

pub returns-in-Locked-clause-answer : goal.returns-in-Locked-clause-answer
returns-in-Locked-clause-answer g c =
    let senders = c.in-Locked.senders in
    let same = c.in-Locked.is in
    answers_so c.simulate_locked.result _ _ (λ answers. inr (inl (c.in_ok-trace.ensures.locked senders same, answers)))
    (answers_senders AreLockedJournal (map (λ w. w.now) c.args.words.now) (g.R.Source.remaining c.args.reader.now) (g.W.Write.contents c.args.writer.now)
    (g.W.Write.contents c.simulate_locked.new.writer) c.simulate_locked.result _ _ senders.senders
    (c.in_ok-trace.ensures.locked_seed senders same) (c.in_ok-trace.ensures.locked_parameters senders same)
    (c.in_ok-trace.ensures.senders senders same) c.simulate_locked.ensures.journal)

pub returns-in-Lanes-clause-answer : goal.returns-in-Lanes-clause-answer
returns-in-Lanes-clause-answer g c =
    let lanes = c.in-Lanes.lanes in
    let same = c.in-Lanes.is in
    answers_so c.simulate_lanes.result _ _ (λ answers. inr (inr (inl (c.in_ok-trace.ensures.lanes lanes same, answers))))
    (answers_senders AreLanesJournal (map (λ w. w.now) c.args.words.now) (g.R.Source.remaining c.args.reader.now) (g.W.Write.contents c.args.writer.now)
    (g.W.Write.contents c.simulate_lanes.new.writer) c.simulate_lanes.result _ _ lanes.by.senders
    (c.in_ok-trace.ensures.lanes_seed lanes same) (c.in_ok-trace.ensures.lanes_parameters lanes same)
    (c.in_ok-trace.ensures.lanes_senders lanes same) c.simulate_lanes.ensures.journal)

pub returns-in-Lanes-clause-quiet : goal.returns-in-Lanes-clause-quiet
returns-in-Lanes-clause-quiet g c =
    let lanes = c.in-Lanes.lanes in
    on_ok c.simulate_lanes.result _ (λ none. c.simulate_lanes.ensures.quiet (none lanes.monitors (c.in_ok-trace.ensures.monitors lanes c.in-Lanes.is)))

pub returns-in-Trace-clause-told : goal.returns-in-Trace-clause-told
returns-in-Trace-clause-told g c =
    let trace = c.in-Trace.trace in
    on_ok c.simulate.result _ (λ lanes. absurd (trace_has_no_lanes _ (c.in_ok-trace.ensures.trace trace c.in-Trace.is) lanes))

pub returns-in-Locked-clause-told : goal.returns-in-Locked-clause-told
returns-in-Locked-clause-told g c =
    let senders = c.in-Locked.senders in
    on_ok c.simulate_locked.result _ (λ lanes. absurd (locked_has_no_lanes _ (c.in_ok-trace.ensures.locked senders c.in-Locked.is) lanes))

pub returns-in-Lanes-clause-told : goal.returns-in-Lanes-clause-told
returns-in-Lanes-clause-told g c =
    let lanes = c.in-Lanes.lanes in
    let same = c.in-Lanes.is in
    answers_watched (map (λ w. w.now) c.args.words.now) (g.R.Source.remaining c.args.reader.now) (g.W.Write.contents c.args.writer.now)
    (g.W.Write.contents c.simulate_lanes.new.writer) (g.F.Write.contents c.args.told.now) (g.F.Write.contents c.simulate_lanes.new.told)
    c.simulate_lanes.result _ _ lanes.by.senders lanes.monitors
    (c.in_ok-trace.ensures.lanes_seed lanes same) (c.in_ok-trace.ensures.lanes_parameters lanes same)
    (c.in_ok-trace.ensures.lanes_senders lanes same) (c.in_ok-trace.ensures.monitors lanes same) c.simulate_lanes.ensures.told_of

pub returns-in-Help-clause-told : goal.returns-in-Help-clause-told
returns-in-Help-clause-told g c =
    let text = c.in-Help.text in
    on_ok c.show.result _ (λ lanes. absurd (help_has_no_lanes _ (c.in_ok-trace.ensures.help text c.in-Help.is) lanes))

pub returns-in-Trace-clause-fault : goal.returns-in-Trace-clause-fault
returns-in-Trace-clause-fault g c =
    let trace = c.in-Trace.trace in
    let same = c.in-Trace.is in
    trace_fault_on _ (map (λ w. w.now) c.args.words.now) _ _ (g.R.Source.remaining c.args.reader.now) (g.W.Write.contents c.args.writer.now)
    (g.W.Write.contents c.simulate.new.writer) c.simulate.result (c.in_ok-trace.ensures.seed trace same) (c.in_ok-trace.ensures.parameters trace same)
    (c.in_ok-trace.ensures.trace trace same) (rw c.deref.ensures.value at c.simulate.ensures.fault)

pub returns-in-Locked-clause-fault : goal.returns-in-Locked-clause-fault
returns-in-Locked-clause-fault g c =
    let senders = c.in-Locked.senders in
    let same = c.in-Locked.is in
    locked_fault_on _ (map (λ w. w.now) c.args.words.now) _ _ senders.senders (g.R.Source.remaining c.args.reader.now) (g.W.Write.contents c.args.writer.now)
    (g.W.Write.contents c.simulate_locked.new.writer) c.simulate_locked.result (c.in_ok-trace.ensures.locked_seed senders same)
    (c.in_ok-trace.ensures.locked_parameters senders same) (c.in_ok-trace.ensures.senders senders same) (c.in_ok-trace.ensures.locked senders same)
    c.simulate_locked.ensures.fault

pub returns-in-Lanes-clause-fault : goal.returns-in-Lanes-clause-fault
returns-in-Lanes-clause-fault g c =
    let lanes = c.in-Lanes.lanes in
    let same = c.in-Lanes.is in
    lanes_fault_on _ (map (λ w. w.now) c.args.words.now) _ _ lanes.by.senders lanes.monitors (g.R.Source.remaining c.args.reader.now) (g.W.Write.contents c.args.writer.now)
    (g.W.Write.contents c.simulate_lanes.new.writer) c.simulate_lanes.result (c.in_ok-trace.ensures.lanes_seed lanes same)
    (c.in_ok-trace.ensures.lanes_parameters lanes same) (c.in_ok-trace.ensures.lanes_senders lanes same) (c.in_ok-trace.ensures.monitors lanes same)
    (c.in_ok-trace.ensures.lanes lanes same) c.simulate_lanes.ensures.fault

pub returns-in-Trace-clause-unread : goal.returns-in-Trace-clause-unread
returns-in-Trace-clause-unread g c =
    let trace = c.in-Trace.trace in
    let same = c.in-Trace.is in
    input_asked (map (λ w. w.now) c.args.words.now) _ _ (c.simulate.new.reader ≡ c.args.reader.now) (c.in_ok-trace.ensures.seed trace same)
    (c.in_ok-trace.ensures.parameters trace same) (c.in_ok-trace.ensures.trace trace same).0 (rw c.deref.ensures.value at c.simulate.ensures.reads)

pub returns-in-Locked-clause-unread : goal.returns-in-Locked-clause-unread
returns-in-Locked-clause-unread g c =
    let senders = c.in-Locked.senders in
    let same = c.in-Locked.is in
    input_asked (map (λ w. w.now) c.args.words.now) _ _ (c.simulate_locked.new.reader ≡ c.args.reader.now) (c.in_ok-trace.ensures.locked_seed senders same)
    (c.in_ok-trace.ensures.locked_parameters senders same) (c.in_ok-trace.ensures.locked senders same).0 c.simulate_locked.ensures.reads

pub returns-in-Lanes-clause-unread : goal.returns-in-Lanes-clause-unread
returns-in-Lanes-clause-unread g c =
    let lanes = c.in-Lanes.lanes in
    let same = c.in-Lanes.is in
    input_asked (map (λ w. w.now) c.args.words.now) _ _ (c.simulate_lanes.new.reader ≡ c.args.reader.now) (c.in_ok-trace.ensures.lanes_seed lanes same)
    (c.in_ok-trace.ensures.lanes_parameters lanes same) (c.in_ok-trace.ensures.lanes lanes same).0 c.simulate_lanes.ensures.reads

pub returns-in_err-trace-clause-unread : goal.returns-in_err-trace-clause-unread
returns-in_err-trace-clause-unread g c = inr refl

pub returns-in-Help-clause-unread : goal.returns-in-Help-clause-unread
returns-in-Help-clause-unread g c = inr refl
