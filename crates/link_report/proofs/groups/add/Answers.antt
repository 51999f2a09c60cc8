use Rattle.std.proofs.Common.{◌≡◌, ◌∙◌, ◌<◌, ◌++◌, ◌∷◌, [], ap, length, set, sym, arith}
use Rattle.link_report.specs.Groups.{GroupParts}
use Rattle.link_report.proofs.GroupLemmas.{with_packet_at, with_packet_beyond}
use Rattle.link_report.proofs.groups.add.Goals as goal

pub returns-in_ok-push : goal.returns-in_ok-push
returns-in_ok-push c =
    let ok = c.args.groups.now.ok in
    let groups = c.args.groups.now.items in
    let p = c.args.packet.now in
    let low : p.tuple < length groups = omega arith in
    ap (λ (g : GroupParts). set groups p.tuple g) (c.in_ok-push.ensures {u = tt} ∙ ap (λ (g : GroupParts). record g { packets = g.packets ++ p ∷ [] }) c.index_mut.ensures.value)
    ∙ sym (with_packet_at groups p.tuple p c.index_mut.result.now low)

pub returns-else-number-len : goal.returns-else-number-len
returns-else-number-len c =
    let ok = c.args.groups.now.ok in
    sym (with_packet_beyond c.args.groups.now.items c.args.packet.now.tuple c.args.packet.now (omega arith))
