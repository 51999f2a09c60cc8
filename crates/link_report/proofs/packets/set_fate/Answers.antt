use Rattle.std.proofs.Common.{◌≡◌, ◌∙◌, ◌<◌, ap, length, set, sym, arith}
use Rattle.link_report.specs.declared.packets.PacketRecord.{PacketRecord}
use Rattle.link_report.proofs.PacketLemmas.{with_fate_at, with_fate_beyond}
use Rattle.link_report.proofs.packets.set_fate.Goals as goal

pub returns-then-id-len : goal.returns-then-id-len
returns-then-id-len c =
    let ok = c.args.records.now.ok in
    let packets = c.args.records.now.items in
    let low : c.args.id < length packets = omega arith in
    ap (λ (p : PacketRecord). set packets c.args.id (record p { fate = c.args.fate })) c.index_mut.ensures.value
    ∙ sym (with_fate_at packets c.args.id c.args.fate c.index_mut.result.now low)

pub returns-else-id-len : goal.returns-else-id-len
returns-else-id-len c =
    let ok = c.args.records.now.ok in
    sym (with_fate_beyond c.args.records.now.items c.args.id c.args.fate (omega arith))
