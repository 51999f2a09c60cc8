-- Each turn passes one option.
use Rattle.std.proofs.Common.{ℕ, ◌+◌, suc, sym, subst, arith}
use Rattle.header_core.proofs.JumboLemmas.{Looks, looks_more, looks_none}
use Rattle.header_core.proofs.jumbo.jumbo_option.Goals as goal

pub loop-at-init : goal.loop-at-init
loop-at-init c = record { walk = (0, looks_none c.args.bytes.now); bound = omega arith }

pub loop-at-preserved : goal.loop-at-preserved
loop-at-preserved c =
    let (k, walk) = c.loop-at.invariant.walk in
    let more = looks_more c.args.bytes.now c.loop-at.at k walk (sym c.in-Another.ensures.found) in
    record {
      walk = (suc k, subst (λ (n : ℕ). Looks c.args.bytes.now (c.loop-at.at + n) (suc k)) (sym c.option_length-at.ensures.value) more);
      bound = omega (arith, c.in-Another.ensures.room, c.option_length-at.ensures.bound);
    }
