use Rattle.std.proofs.Common.{◌/◌, ap, refl, arith}
use Rattle.link_picture.proofs.BinLemmas.{add_in, add_out}
use Rattle.link_picture.proofs.bins.add.Goals as goal

pub returns-then-number-axis : goal.returns-then-number-axis
returns-then-number-axis c =
    let axis = c.args.axis.now in
    λ packets room are. add_out axis.width axis.first axis.count _ c.args.bins.now.items c.args.packet.now axis.is_wide (ap (λ m. m / axis.width) c.last_moment.ensures) (λ above. absurd (omega arith)) packets are

pub returns-else-place-len : goal.returns-else-place-len
returns-else-place-len c =
    let axis = c.args.axis.now in
    λ packets room are. add_out axis.width axis.first axis.count _ c.args.bins.now.items c.args.packet.now axis.is_wide (ap (λ m. m / axis.width) c.last_moment.ensures) (λ above. omega arith) packets are

pub returns-then-place-len : goal.returns-then-place-len
returns-then-place-len c =
    let axis = c.args.axis.now in
    λ packets room are. add_in axis.width axis.first axis.count _ _ c.args.bins.now.items c.args.packet.now c.index.result.now c.with.result axis.is_wide (ap (λ m. m / axis.width) c.last_moment.ensures) c.if-number-axis.false refl (omega arith) c.index.ensures c.with.ensures packets room are
