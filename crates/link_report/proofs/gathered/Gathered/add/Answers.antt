use Rattle.std.proofs.Common.{◌<◌, ◌≤◌, arith}
use Rattle.link_report.proofs.PacketLemmas.{few_sent}
use Rattle.link_report.proofs.gathered.Gathered.add.Goals as goal

pub add-requires : goal.add-requires
add-requires c =
    let inv = c.self.invariant in
    let counted = inv.counted in
    let few = inv.few in
    let room : 0 < c.self.inside.told.room = rw (← c.self.view_is) at c.requires in
    let low : c.self.inside.count ≤ c.self.inside.most = omega (arith, c.if-self.true) in
    rw (inv.packets c.if-not-self.true low) (omega (arith, few_sent c.self.inside.told.items))
