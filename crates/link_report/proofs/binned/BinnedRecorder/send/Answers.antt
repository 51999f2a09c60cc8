use Rattle.std.proofs.Common.{◌∙◌, ◌++◌, ◌∷◌, [], sym, ap}
use Rattle.link_report.specs.Gatherings.{Gathering}
use Rattle.link_report.proofs.BinLemmas.{binned_still}
use Rattle.link_report.proofs.binned.BinnedRecorder.send.Goals as goal

pub invariant_of-self : goal.invariant_of-self
invariant_of-self c =
    let old = c.self.inside in
    let follow = c.follow in
    let gathered = follow.ensures.gathered in
    record {
      most = ap (λ (g : Gathering). g.most) gathered ∙ c.send.ensures.on.most ∙ c.self.invariant.most;
      short = ap (λ (g : Gathering). g.is_short) gathered;
      rows = rw (ap (λ (g : Gathering). g.events) gathered) (binned_still old.bins.value.series follow.new.self.series old.bins.value.table follow.new.self.table old.bins.value.is_short follow.new.self.is_short old.gathered.events c.send.new.self.events c.departure-event.result (rw c.deref_mut.ensures.value at follow.ensures.queue) (rw c.deref_mut.ensures.value at follow.ensures.every) (c.send.ensures.told ∙ (λ i. c.self.inside.gathered.events ++ sym c.departure-event.ensures i ∷ [])) (rw c.deref_mut.ensures.value at follow.ensures.walk) c.self.invariant.rows);
    }
