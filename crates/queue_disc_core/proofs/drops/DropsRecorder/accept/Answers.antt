use lib.Seq.{take-nil}
use Rattle.std.proofs.Common.{[], sym, arith}
use Rattle.queue_disc_core.proofs.drops.DropsRecorder.accept.Goals as goal
use Rattle.queue_disc_core.proofs.RecentDrops.{recent_accepted}

pub invariant_of-self : goal.invariant_of-self
invariant_of-self c =
    let s = c.self.inside in
    let kept = c.self.invariant in
    let w = c.args.packet.now in
    record {
      all = [];
      recent = rw (c.and.ensures.items, c.acceptance.ensures) (recent_accepted kept.all s.told.items s.lost.items kept.recent c.args.lane w.id w.stamp c.args.flow w.packet);
      first = rw c.clear.ensures.items (sym (take-nil s.most));
      some = kept.some;
      fit = omega (arith, kept.fit, c.clear.ensures.capacity);
    }
