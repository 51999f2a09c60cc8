use Rattle.std.proofs.Common.{◌≡◌, ◌+◌, [], ap, length, ◌∙◌, arith}
use Rattle.std.proofs.lemmas.List.Folds.{sum_by-replicate}
use Rattle.packet_core.specs.declared.packet.Waiting.{Waiting}
use Rattle.journal_core.specs.MadeFor.{for_packets}
use Rattle.sched_core.specs.Schedulers.{Scheduler, new_scheduler_for}
use Rattle.queue_disc_core.proofs.queue_disc.open_sched.Goals as goal

pub returns : goal.returns
returns c =
    let made_for : c.in_ok-drops.drops.made_for ≡ c.args.params.limit + 1 = omega (arith, c.in_ok-drops.ensures.3, c.limit.ensures.value) in
    let opened = c.in_ok-sched.ensures ∙ ap (λ n. new_scheduler_for c.args.params c.args.seed (for_packets n)) made_for in
    let none = sum_by-replicate (length {A = Waiting}) c.args.params.flows [] in
    let room : c.reserve.new.self.room ≡ c.args.params.limit + 1 =
    omega (arith, c.in_ok-reserve.ensures.ok, ap (λ (s : Scheduler). s.room) opened, c.limit.ensures.value) in
    let capacity : c.reserve.new.self.capacity ≡ c.args.params.limit + 1 =
    rw opened at c.in_ok-reserve.ensures.capacity ∙ omega (arith, none, c.limit.ensures.value) in
    c.reserve.ensures.rest ∙ (λ i. record (opened i) { room = room i; capacity = capacity i })
