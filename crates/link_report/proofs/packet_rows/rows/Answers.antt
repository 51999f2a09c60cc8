use Rattle.std.proofs.Common.{◌≡◌, arith, refl, take}
use Rattle.std.proofs.lemmas.List.{take_all}
use Rattle.link_report.specs.PacketTables.{packet_line}
use Rattle.link_report.proofs.TableLemmas.{adds_line, adds_none}
use Rattle.link_report.proofs.packet_rows.rows.Goals as goal

pub loop-packet-init : goal.loop-packet-init
loop-packet-init c = adds_none c.args.table.now

pub loop-packet-preserved : goal.loop-packet-preserved
loop-packet-preserved c =
    adds_line (packet_line c.args.queue) c.args.packets.now c.loop-packet.packet-index _ _ _ _ _ (omega arith) refl c.loop-packet.invariant c.in_ok-row.ensures

pub returns : goal.returns
returns c =
    let all : take c.loop-packet.packet-index c.args.packets.now ≡ c.args.packets.now = take_all _ _ (omega arith) in
    rw all at c.loop-packet.invariant
