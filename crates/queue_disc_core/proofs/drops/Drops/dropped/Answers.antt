use Rattle.std.proofs.Common.{◌≡◌, ◌+◌, ◌-◌, ◌≤◌, List, ap, get_or, length, sym, subst, ◌∙◌, arith}
use Rattle.queue_disc_core.specs.declared.answers.Dropped.{Dropped}
use Rattle.queue_disc_core.specs.Drops.{IsDropAt, DropTale, causes_of, settled_drops}
use Rattle.queue_disc_core.specs.DropsKept.{drop_tale_of}
use Rattle.queue_disc_core.proofs.drops.Drops.dropped.Goals as goal
use Rattle.queue_disc_core.proofs.RecentDrops.{first_all, losses_kept, recent_drop}

pub returns : goal.returns
returns c =
    let s = c.self.inside in
    let view : drop_tale_of s ≡ c.args.self.now = c.self.view_is in
    let kept = c.self.invariant in
    let all = losses_kept kept.all s.told.items s.lost.items kept.recent in
    let fits : length s.lost.items ≤ s.most + settled_drops s.told.items =
    subst (λ (t : DropTale). length t.lost ≤ t.made_for + settled_drops t.events) (sym view) c.requires.few in
    let same = first_all s.most s.drops.items kept.all kept.first (omega arith) in
    let back = c.args.back in
    let few : back + settled_drops s.told.items ≤ length (causes_of s.told.items) =
    subst (λ (t : DropTale). back + settled_drops t.events ≤ length (causes_of t.events)) (sym view) c.requires.recent in
    let many : length s.lost.items ≡ length (causes_of s.told.items) =
    subst (λ (t : DropTale). length t.lost ≡ length (causes_of t.events)) (sym view) c.requires.told in
    subst (λ (t : DropTale). IsDropAt t.events t.lost (length t.lost - back) c.index.result.now) view
    (recent_drop kept.all s.told.items s.lost.items kept.recent back few many c.index.result.now c.len.result c.requires.some (c.len.ensures ∙ s.drops.ok.0 ∙ ap length same)
    (c.index.ensures ∙ ap (λ (l : List Dropped). get_or l (c.len.result - back) c.index.result.now) same))
