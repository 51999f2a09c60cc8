use Rattle.std.proofs.Common.{◌≡◌, ◌+◌, ◌≤◌, ap, length, subst, sym, arith}
use Rattle.queue_disc_core.specs.Drops.{DropTale, settled_drops}
use Rattle.queue_disc_core.proofs.RecentDrops.{first_all, losses_kept}
use Rattle.queue_disc_core.proofs.drops.Drops.kept.Goals as goal

pub returns : goal.returns
returns c =
    let s = c.self.inside in
    let kept = c.self.invariant in
    let all = losses_kept kept.all s.told.items s.lost.items kept.recent in
    let few : length s.lost.items ≤ s.most + settled_drops s.told.items =
    subst (λ (t : DropTale). length t.lost ≤ t.made_for + settled_drops t.events) (sym c.self.view_is) c.requires in
    let same = ap length (first_all s.most s.drops.items kept.all kept.first (omega arith)) in
    subst (λ (t : DropTale). length t.lost ≡ c.len.result + settled_drops t.events) c.self.view_is (omega (arith, all, same, c.len.ensures, s.drops.ok.0))
