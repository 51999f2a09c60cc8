use Rattle.std.proofs.Common.{◌∙◌, ap}
use Rattle.link_picture.specs.declared.bins.Bin.{Bin}
use Rattle.link_picture.specs.Bins.{longer}
use Rattle.link_picture.proofs.BinLemmas.{bin_more}
use Rattle.link_picture.proofs.bins.Bin.with.Goals as goal

pub returns : goal.returns
returns c =
    let bin = c.args.self.now in
    let waits = c.longer.ensures ∙ ap (λ o. longer bin.longest o) c.delay_sent.ensures in
    λ packets room is. bin_more packets c.args.packet.now bin c.longer.result c.args.len c.saturating_add.result c.with.result room is waits c.requires c.ranges.len.fits (rw c.from.ensures at c.saturating_add.ensures)
    (c.with.ensures packets room.few (ap (λ (b : Bin). b.counts) is))
