use Rattle.std.proofs.Common.{◌∙◌, ◌-◌, ◌^◌, ◌<◌, ap, length, set, subst, sym, arith}
use Rattle.link_command.specs.Marks.{IsCountable, counted}
use Rattle.link_command.specs.declared.marks.Counts.{Counts}
use Rattle.link_command.proofs.MarkLemmas.{with_counted_at, with_counted_beyond}
use Rattle.link_command.proofs.marks.count.Goals as goal

pub returns-then-number-len : goal.returns-then-number-len
returns-then-number-len c =
    let ok = c.args.counts.now.ok in
    let counts = c.args.counts.now.items in
    let p = c.args.packet.now in
    let low : p.tuple < length counts = omega arith in
    ap (λ (own : Counts). set counts p.tuple own) (c.count.ensures ∙ ap (λ (own : Counts). counted c.args.interval own p) c.index_mut.ensures.value)
    ∙ sym (with_counted_at c.args.interval counts p.tuple p c.index_mut.result.now low)

pub returns-else-number-len : goal.returns-else-number-len
returns-else-number-len c =
    let ok = c.args.counts.now.ok in
    sym (with_counted_beyond c.args.interval c.args.counts.now.items c.args.packet.now.tuple c.args.packet.now (omega arith))

pub count-requires : goal.count-requires
count-requires c =
    let ok = c.args.counts.now.ok in
    let low : c.args.packet.now.tuple < length c.args.counts.now.items = omega arith in
    subst (IsCountable (2 ^ 64 - 1)) (sym c.index_mut.ensures.value) (c.requires c.args.packet.now.tuple c.index_mut.result.now low)
