use Rattle.std.proofs.Common.{◌∙◌, ◌++◌, ◌∷◌, [], ap, cond}
use Rattle.journal_core.proofs.TupleEquality.{any_agree}
use Rattle.link_report.proofs.PacketLemmas.{numbers_agree}
use Rattle.link_report.proofs.packets.number_of.Goals as goal

pub returns-clause-number : goal.returns-clause-number
returns-clause-number c = c.in_ok-number.ensures.index ∙ numbers_agree c.args.tuple c.args.tuples.now.keys

pub returns-clause-tuples : goal.returns-clause-tuples
returns-clause-tuples c =
    let known = c.args.tuples.now.keys in
    c.in_ok-number.ensures.keys ∙ ap (λ b. cond b known (known ++ c.args.tuple ∷ [])) (any_agree c.args.tuple known)
