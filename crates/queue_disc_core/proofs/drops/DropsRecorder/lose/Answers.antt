use Rattle.std.proofs.Common.{[], ◌∷◌, ◌++◌, length, ◌∙◌, inl, inr}
use Rattle.std.proofs.lemmas.Bool.{cases_lt}
use Rattle.queue_disc_core.specs.declared.answers.Dropped.{Dropped as Drop}
use Rattle.queue_disc_core.proofs.drops.DropsRecorder.lose.Goals as goal
use Rattle.queue_disc_core.proofs.RecentDrops.{first_full, first_pushed, recent_lost}

pub invariant_of-self : goal.invariant_of-self
invariant_of-self c =
    let s = c.self.inside in
    let kept = c.self.invariant in
    let w = c.args.packet.now in
    let d : Drop = record { tag = w.packet.tag; id = w.id; cause = c.args.cause } in
    record {
      all = kept.all ++ d ∷ [];
      recent = rw (c.and.ensures.items, c.and-2.ensures.items, c.loss.ensures) (recent_lost kept.all s.told.items s.lost.items kept.recent w c.args.moment c.args.cause);
      first = elim (cases_lt (length s.drops.items) s.most) [
        | inl place ↦ c.keep.ensures.pushed place ∙ rw c.tag.ensures (first_pushed s.most s.drops.items kept.all d kept.first place)
        | inr full ↦ c.keep.ensures.full full ∙ first_full s.most s.drops.items kept.all d kept.first full
      ];
      some = kept.some;
      fit = c.keep.ensures.fit;
    }
