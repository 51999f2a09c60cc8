-- Each turn passes one extension header.
use Rattle.std.proofs.Common.{suc, sym, subst, arith}
use Rattle.header_core.proofs.ChainLemmas.{Walks, walks_more, walks_none}
use Rattle.header_core.specs.declared.chain.Place.{Place}
use Rattle.header_core.proofs.chain.end_of_chain.Goals as goal

pub loop-place-init : goal.loop-place-init
loop-place-init c = record { walk = (0, walks_none c.args.bytes.now c.args.len); within = omega arith }

pub loop-place-preserved : goal.loop-place-preserved
loop-place-preserved c =
    let (k, walk) = c.loop-place.invariant.walk in
    let more = walks_more c.args.bytes.now c.args.len c.loop-place.place k walk (sym c.in-Extension.ensures.kind) in
    record {
      walk = (suc k, subst (λ (p : Place). Walks c.args.bytes.now c.args.len p (suc k)) (sym c.place_behind-place.ensures.place) more);
      within = omega (arith, c.in-Extension.ensures.room, c.place_behind-place.ensures.at);
    }
