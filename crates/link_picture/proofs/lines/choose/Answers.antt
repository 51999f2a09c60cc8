use Rattle.link_report.proofs.SummaryLemmas.{sorted_up}
use Rattle.link_picture.proofs.ChoiceLemmas.{in_order}
use Rattle.link_picture.proofs.lines.choose.Goals as goal

pub returns : goal.returns
returns c =
    let order = c.in_ok-sort.ensures {u = tt} in
    in_order c.args.tuples c.args.packets.now _ _ (c.in_ok-chosen.ensures {u = tt}) order.permutation (sorted_up _ order.sorted)
