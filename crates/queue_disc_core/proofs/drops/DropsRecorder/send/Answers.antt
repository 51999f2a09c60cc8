use Rattle.queue_disc_core.proofs.drops.DropsRecorder.send.Goals as goal
use Rattle.queue_disc_core.proofs.RecentDrops.{recent_sent}

pub invariant_of-self : goal.invariant_of-self
invariant_of-self c =
    let s = c.self.inside in
    let kept = c.self.invariant in
    let w = c.args.served.now.waiting in
    record {
      all = kept.all;
      recent = rw (c.and.ensures.items, c.departure.ensures) (recent_sent kept.all s.told.items s.lost.items kept.recent w.id c.args.moment w.packet.ecn c.args.served.now.mark);
      first = kept.first;
      some = kept.some;
      fit = kept.fit;
    }
