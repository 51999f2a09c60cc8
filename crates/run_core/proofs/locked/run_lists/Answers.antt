use Rattle.std.proofs.Common.{◌≡◌, ◌∙◌, ◌+◌, ◌<◌, ◌++◌, ◌∷◌, [], All, List, ap, arith, length, map, refl, rules, subst, sum_by, sym}
use Rattle.std.proofs.lemmas.Grind.{common_steps}
use Rattle.std.proofs.lemmas.List.{length-map}
use Rattle.packet_core.specs.declared.flow.Seed.{Seed}
use Rattle.packet_core.specs.declared.params.ParamFields.{ParamFields}
use Rattle.journal_core.specs.Runs.{IsRunOf}
use Rattle.fair_core.specs.FqCodel.{fq_codel}
use Rattle.port_core.specs.Ports.{Port, Seat, new_seat, new_seats}
use Rattle.trace_core.specs.declared.journal_report.SenderRow.{SenderRow}
use Rattle.sender_core.specs.Senders.{calls_of}
use Rattle.run_core.specs.Journals.{sender_row_of}
use Rattle.run_core.proofs.JournalLemmas.{accepted_of_rows, new_seats_length, rows_of_done, seats_popped}
use Rattle.run_core.proofs.locked.run_lists.Goals.{In-Some}
use Rattle.run_core.proofs.locked.run_lists.Given.{Over}
use Rattle.run_core.proofs.locked.run_lists.Goals as goal

-- the senders' seats, and the main thread's
popped : (g : Over) (c : In-Some g) → (c.pop.new.self.items ≡ new_seats (length c.args.lists.now)) × (c.in-Some.seat ≡ new_seat (length c.args.lists.now))
popped g c =
    let are : new_seats (length c.args.lists.now + 1) ≡ c.pop.new.self.items ++ c.in-Some.seat ∷ [] = search rules in
    seats_popped (length c.args.lists.now) c.pop.new.self.items c.in-Some.seat are

-- there is a seat, the main thread's
pub unreachable-requires : goal.unreachable-requires
unreachable-requires g c =
    let seats : length c.in_ok-port.seats.items ≡ length c.args.lists.now + 1 =
    ap length (c.in_ok-port.ensures {u = tt}).seats ∙ new_seats_length (length c.args.lists.now + 1) in
    let some : 0 < length c.in_ok-port.seats.items = omega arith in
    grind (arith, common_steps, some, c.in_ok-port.seats.ok.0, (c.in_default.ensures {u = tt}).variant)

pub start_locked-requires-clause-each : goal.start_locked-requires-clause-each
start_locked-requires-clause-each g c =
    let seats = popped g (goal.at.start_locked-requires-clause-each g c).In-Some in
    let many : length c.with_room-seats.result.items ≡ length c.args.lists.now = ap length (c.with_room-seats.ensures ∙ seats.0) ∙ new_seats_length (length c.args.lists.now) in
    let gates : length c.deref.result.now ≡ length c.args.lists.now = search rules in
    search (rules, many, gates)

pub returns-in-Ok-clause-journal : goal.returns-in-Ok-clause-journal
returns-in-Ok-clause-journal g c =
    let n = length c.args.lists.now in
    let seats = popped g (goal.at.returns-in-Ok-clause-journal g c).In-Some in
    let roomy = c.with_room-seats.ensures ∙ seats.0 in
    let many : length c.with_room-seats.result.items ≡ n = ap length roomy ∙ new_seats_length n in
    let done = c.in_ok-done.done.items in
    let device = c.in_ok-seat.seat in
    let engine = c.in-Ok.engine in
    let events = engine.sched.standing.events in
    let number : length done ≡ n = c.in_ok-done.ensures.number ∙ many in
    let rows_are = c.in_ok-rows.ensures.rows in
    let untold : device.told ≡ [] = c.in_ok-seat.ensures.seat.1 ∙ (rw c.in_ok-part.was at c.in_ok-done.ensures.part).1 ∙ ap (λ (s : Seat). s.told) seats.1 in
    let settled : c.push.new.self.items ≡ map (λ d. d.seat) done ++ device ∷ [] = c.in_ok-push.ensures.items ∙ ap (λ (l : List Seat). l ++ device ∷ []) c.in_ok-rows.ensures.seats in
    let each = rw roomy at c.in_ok-done.ensures.each in
    let told = rw settled at c.in-Ok.ensures.told in
    let with_params : engine.sched.params ≡ c.args.params = c.in-Ok.ensures.params.0 ∙ ap (λ (p : Port). p.params) c.in_ok-port.ensures.port in
    let with_seed : engine.sched.seed ≡ c.args.seed = c.in-Ok.ensures.params.1 ∙ ap (λ (p : Port). p.seed) c.in_ok-port.ensures.port in
    let sender_rows =
    rows_of_done c.args.params c.args.seed n c.args.steps.now c.args.lists.now (λ d. d.calls) (λ d. d.stop) (λ d. d.seat) done (device ∷ []) events
    c.requires.lists number (λ i d s l less. each i d s l (omega (arith, less, new_seats_length n))) c.in_ok-rows.ensures.done told in
    record {
      made = engine.steps;
      by_calls = c.if-not-is_whole.ensures.calls refl (λ i. calls_of c.args.params c.args.seed n i c.args.steps.now) c.requires.lists.each;
      standing = engine.sched.standing;
      run = subst (λ (s : Seed). IsRunOf (fq_codel c.args.params s) engine.steps engine.sched.standing) with_seed
          (subst (λ (p : ParamFields). IsRunOf (fq_codel p engine.sched.seed) engine.steps engine.sched.standing) with_params c.run_of_steps.ensures);
      journal = refl;
      closed = c.if-not-is_whole.ensures.closed refl;
      none_waits = c.if-not-is_whole.ensures.none_waits refl;
      number = ap length rows_are ∙ length-map done (λ d. sender_row_of d.calls d.seat) ∙ number;
      each = λ i r less. rw rows_are (sender_rows i r less);
      all =
          c.in-Ok.ensures.accepted ∙ ap (sum_by (λ (s : Seat). length s.told)) settled
          ∙ accepted_of_rows (λ d. d.calls) (λ d. d.seat) done device untold ∙ ap (sum_by (λ (r : SenderRow). r.accepted)) (sym rows_are);
      none_left = λ open'. subst (λ rs. All (λ row. row.left ≡ 0) rs) c.deref-in-Ok.ensures.value (c.if-leaves.ensures.none refl open');
    }
