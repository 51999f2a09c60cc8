use lib.Seq.{take-nil}
use Rattle.std.proofs.Common.{[], refl, sym, arith}
use Rattle.queue_disc_core.proofs.drops.Drops.try_new.Goals as goal

-- part by part, since nothing names what was forgotten
pub invariant_of-result : goal.invariant_of-result
invariant_of-result c = record {
  all = [];
  recent = rw (c.new.ensures.items, c.new-3.ensures.items) (record {
    past_losses = [];
    past_causes = [];
    losses_are = refl;
    causes_are = refl;
    as_many = refl;
    settled = refl;
  });
  first = rw (c.in_ok-reserve.ensures.items, c.new-drops.ensures.items) (sym (take-nil c.args.most));
  some = c.requires;
  fit = omega (arith, c.in_ok-reserve.ensures.ok, c.new-drops.ensures.len);
}
