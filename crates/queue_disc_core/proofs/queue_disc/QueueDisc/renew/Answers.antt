use Rattle.std.proofs.Common.{◌≡◌, ◌+◌, ap, subst, sym, ◌∙◌}
use Rattle.queue_disc_core.specs.declared.totals.QueueDiscTotals.{QueueDiscTotals}
use Rattle.queue_disc_core.specs.QueueDiscKept.{IsSoundDisc, disc_state_of}
use Rattle.queue_disc_core.specs.QueueDiscs.{IsDue, open_scheduler, renewed, totals_of}
use Rattle.queue_disc_core.proofs.Renewals.{renewed_sound}
use Rattle.queue_disc_core.proofs.queue_disc.QueueDisc.renew.Goals as goal

pub invariant_of-self : goal.invariant_of-self
invariant_of-self c =
    let old = disc_state_of c.self.inside in
    let due : IsDue old = subst IsDue (sym c.self.view_is) c.requires in
    let total : c.totals-totals.result ≡ totals_of old = c.totals-totals.ensures.value ∙ ap totals_of (sym c.self.view_is) in
    let balance = subst (λ (t : QueueDiscTotals). t.accepted ≡ t.sent + t.dropped_codel + t.dropped_overflow + t.flushed + t.queued) total c.totals-totals.ensures.balance in
    let sched : c.in_ok-sched.sched ≡ open_scheduler old.sched.params old.sched.seed = c.in_ok-sched.ensures ∙ (λ i. open_scheduler (c.params-params.ensures i) (c.seed.ensures i)) in
    subst IsSoundDisc (λ i. record old { sched = sym sched i; flushed_counts = sym c.none-self-inside.ensures i; past = sym total i })
    (renewed_sound old due c.self.invariant balance (c.has_laws.ensures.counted.queued ∙ due.idle))

pub returns-clause-made : goal.returns-clause-made
returns-clause-made c =
    let old = disc_state_of c.self.inside in
    let total : c.totals-totals.result ≡ totals_of old = c.totals-totals.ensures.value ∙ ap totals_of (sym c.self.view_is) in
    let sched : c.in_ok-sched.sched ≡ open_scheduler old.sched.params old.sched.seed = c.in_ok-sched.ensures ∙ (λ i. open_scheduler (c.params-params.ensures i) (c.seed.ensures i)) in
    (λ i. record old { sched = sched i; flushed_counts = c.none-self-inside.ensures i; past = total i }) ∙ ap renewed c.self.view_is
