use Rattle.std.proofs.Common.{◌∙◌, sym}
use Rattle.link_report.proofs.PacketLemmas.{known_at, number_at}
use Rattle.link_report.proofs.packets.has_number.Goals as goal

pub returns-then-number-known-clause-number : goal.returns-then-number-known-clause-number
returns-then-number-known-clause-number c = λ yes.
    let low = rw c.as_slice-known.ensures.keys at c.if-number-known.true in
    number_at c.args.tuple.now c.args.tuples.now.keys c.args.number _ c.as_slice-known.ensures.unique low (rw c.as_slice-known.ensures.keys at (sym c.eq.ensures ∙ yes))

pub returns-then-number-known-clause-known : goal.returns-then-number-known-clause-known
returns-then-number-known-clause-known c = λ yes.
    let low = rw c.as_slice-known.ensures.keys at c.if-number-known.true in
    known_at c.args.tuple.now c.args.tuples.now.keys c.args.number _ low (rw c.as_slice-known.ensures.keys at (sym c.eq.ensures ∙ yes))
