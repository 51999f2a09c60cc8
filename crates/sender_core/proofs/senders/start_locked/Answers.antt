use Rattle.std.proofs.Common.{◌≡◌, ◌∙◌, ap, arith, length, sym}
use Rattle.std.proofs.lemmas.List.{length-map}
use Rattle.sender_core.specs.Senders.{IsDone, IsHeldUp, LetsThrough}
use Rattle.sender_core.proofs.SenderLemmas.{done_by_lists, done_by_part}
use Rattle.sender_core.proofs.senders.start_locked.Goals as goal

pub returns-clause-each : goal.returns-clause-each
returns-clause-each g c =
    done_by_lists (λ j. j.seat) (λ j. j.packets.now) (λ v. v.items) (λ s l d. IsDone s l d.calls d.stop d.seat)
    c.in_ok-jobs.jobs.items c.args.seats.items c.args.lists.now c.in_ok-done.field-0.items
    c.in_ok-jobs.ensures.seats c.in_ok-jobs.ensures.packets (rw c.in_ok-done.was at c.join-done.ensures.first).1

pub returns-clause-gates : goal.returns-clause-gates
returns-clause-gates g c i d gate less =
    let many : length c.in_ok-jobs.jobs.items ≡ length c.args.seats.items = sym (length-map c.in_ok-jobs.jobs.items (λ j. j.seat)) ∙ ap length c.in_ok-jobs.ensures.seats in
    done_by_part (λ j. j.gate.now) (λ gate d. LetsThrough (g.G.Gate.LetThrough gate) d.calls) c.in_ok-jobs.jobs.items c.args.gates.now c.in_ok-done.field-0.items
    c.in_ok-jobs.ensures.gates (rw c.in_ok-done.was at c.join-done.ensures.first).2 i d gate (omega (arith, many, less))

pub returns-clause-held : goal.returns-clause-held
returns-clause-held g c i d gate less =
    let many : length c.in_ok-jobs.jobs.items ≡ length c.args.seats.items = sym (length-map c.in_ok-jobs.jobs.items (λ j. j.seat)) ∙ ap length c.in_ok-jobs.ensures.seats in
    done_by_part (λ j. j.gate.now) (λ gate d. IsHeldUp (g.G.Gate.HeldUp gate) d.calls d.stop) c.in_ok-jobs.jobs.items c.args.gates.now c.in_ok-done.field-0.items
    c.in_ok-jobs.ensures.gates (rw c.in_ok-done.was at c.join-done.ensures.first).3 i d gate (omega (arith, many, less))
