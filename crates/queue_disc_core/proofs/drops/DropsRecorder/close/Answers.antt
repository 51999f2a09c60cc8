use Rattle.queue_disc_core.proofs.drops.DropsRecorder.close.Goals as goal
use Rattle.queue_disc_core.proofs.RecentDrops.{recent_closed}

pub invariant_of-self : goal.invariant_of-self
invariant_of-self c =
    let s = c.self.inside in
    let kept = c.self.invariant in
    record {
      all = kept.all;
      recent = rw c.and.ensures.items (recent_closed kept.all s.told.items s.lost.items kept.recent c.args.moment);
      first = kept.first;
      some = kept.some;
      fit = kept.fit;
    }
