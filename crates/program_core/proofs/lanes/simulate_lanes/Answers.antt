use Rattle.std.proofs.Common.{◌≡◌, All, Ok, map, inl, inr, option_map, refl, rules, subst, sym}
use Rattle.run_core.specs.Seeing.{IsSeenOf}
use Rattle.packet_core.specs.Words.{params_of_words}
use Rattle.program_core.specs.Faults.{run_fault_told, senders_fault_told}
use Rattle.run_core.specs.Journals.{AreLanesJournal}
use Rattle.program_core.proofs.RunLemmas.{begun, err_told, good, lanes_fault, lanes_run_fault, senders_run}
use Rattle.program_core.proofs.WatchedLemmas.{all_seen_some, told_of_lines}
use Rattle.program_core.proofs.lanes.simulate_lanes.Goals as goal

pub returns-in_err-write_journal-clause-fault : goal.returns-in_err-write_journal-clause-fault
returns-in_err-write_journal-clause-fault g c =
    let fault = c.in_err-write_journal.field-0.0 in
    let params_read : params_of_words (map (λ w. w.now) c.args.request.now.by.run.parameters.items) ≡ Ok c.in_ok-params.params = search rules in
    let made : AreLanesJournal c.in_ok-params.params c.in_ok-seed.seed c.args.request.now.by.senders c.in_ok-steps.steps.items c.in_ok-engine.engine.sched.standing.events c.deref-3.result.now = search rules in
    err_told c.from_residual-in_err-write_journal.result (run_fault_told fault) _ c.from_residual-in_err-write_journal.ensures.1
    (lanes_fault _ (option_map (λ s. s.now) c.args.request.now.by.run.seed) (map (λ w. w.now) c.args.request.now.by.run.parameters.items)
    c.args.request.now.by.senders c.args.request.now.monitors (g.R.Source.remaining c.args.reader.now) (g.W.Write.contents c.args.writer.now) (g.W.Write.contents c.write_journal.new.writer) fault
    (begun (option_map (λ s. s.now) c.args.request.now.by.run.seed) _ _ c.in_ok-seed.seed.0 c.in_ok-params.params c.in_ok-steps.steps.items c.in_ok-seed.ensures.ok params_read c.in_ok-steps.ensures.steps)
    (λ is.
    senders_run AreLanesJournal (option_map (λ s. s.now) c.args.request.now.by.run.seed) _ _ _ _ c.in_ok-seed.seed c.in_ok-params.params c.in_ok-steps.steps.items c.in_ok-engine.engine.sched.standing.events c.deref-3.result.now
    c.in_ok-seed.ensures.ok params_read c.in_ok-steps.ensures.steps made (c.in_err-write_journal.ensures.front is))
    c.in_err-write_journal.ensures.memory c.in_err-write_journal.ensures.untouched)

pub returns-clause-journal : goal.returns-clause-journal
returns-clause-journal g c =
    let params_read : params_of_words (map (λ w. w.now) c.args.request.now.by.run.parameters.items) ≡ Ok c.in_ok-params.params = search rules in
    let made : AreLanesJournal c.in_ok-params.params c.in_ok-seed.seed c.args.request.now.by.senders c.in_ok-steps.steps.items c.in_ok-engine.engine.sched.standing.events c.deref-3.result.now = search rules in
    senders_run AreLanesJournal (option_map (λ s. s.now) c.args.request.now.by.run.seed) _ _ _ _ c.in_ok-seed.seed c.in_ok-params.params c.in_ok-steps.steps.items c.in_ok-engine.engine.sched.standing.events c.deref-3.result.now
    c.in_ok-seed.ensures.ok params_read c.in_ok-steps.ensures.steps made c.in_ok-write_journal.ensures.text

pub tell_seen-requires : goal.tell_seen-requires
tell_seen-requires g c =
    all_seen_some c.in_ok-engine.engine.sched.standing.events c.deref-4.result.now
    (subst (λ s. All (IsSeenOf c.in_ok-engine.engine.sched.standing.events) s) (sym c.deref-4.ensures.value) c.in_ok-engine.ensures.seen.1)

pub returns-clause-told : goal.returns-clause-told
returns-clause-told g c = (
  c.in_ok-engine.engine.sched.standing.events,
  told_of_lines c.in_ok-engine.engine.sched.standing.events c.args.request.now.monitors c.deref-4.result.now c.in_ok-engine.seen.items _ _ c.deref-4.ensures.value
      c.in_ok-engine.ensures.seen.0 c.in_ok-engine.ensures.seen.1 c.tell_seen.ensures.told,
)

pub returns-clause-told_of : goal.returns-clause-told_of
returns-clause-told_of g c =
    let params_read : params_of_words (map (λ w. w.now) c.args.request.now.by.run.parameters.items) ≡ Ok c.in_ok-params.params = search rules in
    let made : AreLanesJournal c.in_ok-params.params c.in_ok-seed.seed c.args.request.now.by.senders c.in_ok-steps.steps.items c.in_ok-engine.engine.sched.standing.events c.deref-3.result.now = search rules in
    senders_run AreLanesJournal (option_map (λ s. s.now) c.args.request.now.by.run.seed) _ _ _ _ c.in_ok-seed.seed c.in_ok-params.params c.in_ok-steps.steps.items c.in_ok-engine.engine.sched.standing.events c.deref-3.result.now
    c.in_ok-seed.ensures.ok params_read c.in_ok-steps.ensures.steps made (
      c.in_ok-write_journal.ensures.text,
      record {
        journal = c.in_ok-engine.engine.sched.standing.events;
        rows = c.deref-3.result.now;
        has_text = refl;
        tells = told_of_lines c.in_ok-engine.engine.sched.standing.events c.args.request.now.monitors c.deref-4.result.now c.in_ok-engine.seen.items _ _ c.deref-4.ensures.value
            c.in_ok-engine.ensures.seen.0 c.in_ok-engine.ensures.seen.1 c.tell_seen.ensures.told;
      },
    )

pub returns-in_err-engine-clause-fault : goal.returns-in_err-engine-clause-fault
returns-in_err-engine-clause-fault g c =
    let fault = c.in_err-engine.field-0.0 in
    let params_read : params_of_words (map (λ w. w.now) c.args.request.now.by.run.parameters.items) ≡ Ok c.in_ok-params.params = search rules in
    err_told c.from_residual-in_err-engine.result (senders_fault_told fault) _ c.from_residual-in_err-engine.ensures.1
    (lanes_run_fault _ (option_map (λ s. s.now) c.args.request.now.by.run.seed) (map (λ w. w.now) c.args.request.now.by.run.parameters.items) c.args.request.now.by.senders c.args.request.now.monitors (g.R.Source.remaining c.args.reader.now) (g.W.Write.contents c.args.writer.now) fault
    c.in_err-engine.ensures.fault
    (begun (option_map (λ s. s.now) c.args.request.now.by.run.seed) _ _ c.in_ok-seed.seed.0 c.in_ok-params.params c.in_ok-steps.steps.items c.in_ok-seed.ensures.ok params_read c.in_ok-steps.ensures.steps))

pub returns-in_err-steps-clause-reads : goal.returns-in_err-steps-clause-reads
returns-in_err-steps-clause-reads g c =
    let params_read : params_of_words (map (λ w. w.now) c.args.request.now.by.run.parameters.items) ≡ Ok c.in_ok-params.params = search rules in
    inl (good (option_map (λ s. s.now) c.args.request.now.by.run.seed) _ c.in_ok-seed.seed.0 c.in_ok-params.params c.in_ok-seed.ensures.ok params_read)

pub returns-in_err-engine-clause-reads : goal.returns-in_err-engine-clause-reads
returns-in_err-engine-clause-reads g c =
    let params_read : params_of_words (map (λ w. w.now) c.args.request.now.by.run.parameters.items) ≡ Ok c.in_ok-params.params = search rules in
    inl (good (option_map (λ s. s.now) c.args.request.now.by.run.seed) _ c.in_ok-seed.seed.0 c.in_ok-params.params c.in_ok-seed.ensures.ok params_read)

pub returns-in_err-write_journal-clause-reads : goal.returns-in_err-write_journal-clause-reads
returns-in_err-write_journal-clause-reads g c =
    let params_read : params_of_words (map (λ w. w.now) c.args.request.now.by.run.parameters.items) ≡ Ok c.in_ok-params.params = search rules in
    inl (good (option_map (λ s. s.now) c.args.request.now.by.run.seed) _ c.in_ok-seed.seed.0 c.in_ok-params.params c.in_ok-seed.ensures.ok params_read)

pub returns-clause-reads : goal.returns-clause-reads
returns-clause-reads g c =
    let params_read : params_of_words (map (λ w. w.now) c.args.request.now.by.run.parameters.items) ≡ Ok c.in_ok-params.params = search rules in
    inl (good (option_map (λ s. s.now) c.args.request.now.by.run.seed) _ c.in_ok-seed.seed.0 c.in_ok-params.params c.in_ok-seed.ensures.ok params_read)

pub returns-in_err-seed-clause-reads : goal.returns-in_err-seed-clause-reads
returns-in_err-seed-clause-reads g c = inr refl

pub returns-in_err-params-clause-reads : goal.returns-in_err-params-clause-reads
returns-in_err-params-clause-reads g c = inr refl
