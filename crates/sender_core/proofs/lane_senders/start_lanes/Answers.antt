use Rattle.std.proofs.Common.{◌≡◌, ◌∙◌, ap, arith, length, sym}
use Rattle.std.proofs.lemmas.List.{length-map}
use Rattle.sender_core.specs.Senders.{IsHeldUp, IsLaneDone, LetsThrough}
use Rattle.sender_core.proofs.SenderLemmas.{done_by_lists, done_by_part}
use Rattle.sender_core.proofs.lane_senders.start_lanes.Goals as goal

pub returns-clause-each : goal.returns-clause-each
returns-clause-each g c =
    done_by_lists (λ j. j.sender) (λ j. j.packets.now) (λ v. v.items) (λ s l d. IsLaneDone s l d.submitted d.stop d.end)
    c.in_ok-jobs.jobs.items c.args.senders.items c.args.lists.now c.in_ok-done.field-0.items
    c.in_ok-jobs.ensures.senders c.in_ok-jobs.ensures.packets (rw c.in_ok-done.was at c.join-done.ensures.first).1

pub returns-clause-gates : goal.returns-clause-gates
returns-clause-gates g c i d gate less =
    let many : length c.in_ok-jobs.jobs.items ≡ length c.args.senders.items = sym (length-map c.in_ok-jobs.jobs.items (λ j. j.sender)) ∙ ap length c.in_ok-jobs.ensures.senders in
    done_by_part (λ j. j.gate.now) (λ gate d. LetsThrough (g.G.Gate.LetThrough gate) d.submitted) c.in_ok-jobs.jobs.items c.args.gates.now c.in_ok-done.field-0.items
    c.in_ok-jobs.ensures.gates (rw c.in_ok-done.was at c.join-done.ensures.first).2 i d gate (omega (arith, many, less))

pub returns-clause-held : goal.returns-clause-held
returns-clause-held g c i d gate less =
    let many : length c.in_ok-jobs.jobs.items ≡ length c.args.senders.items = sym (length-map c.in_ok-jobs.jobs.items (λ j. j.sender)) ∙ ap length c.in_ok-jobs.ensures.senders in
    done_by_part (λ j. j.gate.now) (λ gate d. IsHeldUp (g.G.Gate.HeldUp gate) d.submitted d.stop) c.in_ok-jobs.jobs.items c.args.gates.now c.in_ok-done.field-0.items
    c.in_ok-jobs.ensures.gates (rw c.in_ok-done.was at c.join-done.ensures.first).3 i d gate (omega (arith, many, less))
