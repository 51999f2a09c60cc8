use Rattle.std.proofs.Common.{arith}
use Rattle.std.proofs.lemmas.Result.{on_ok_weaker}
use Rattle.link_report.proofs.GroupLemmas.{few_of_each}
use Rattle.link_report.proofs.TableLemmas.{adds_both}
use Rattle.link_report.proofs.flows.known_rows.Goals as goal

pub group_rows-requires : goal.group_rows-requires
group_rows-requires c = rw (c.deref.ensures.value, c.in_ok-groups.ensures {u = tt}) (few_of_each _ 0 _ c.args.packets.now.tuples c.requires)

pub returns : goal.returns
returns c =
    let rows = rw (c.deref.ensures.value, c.in_ok-groups.ensures {u = tt}, c.span_of-span.ensures, c.records.ensures) at (c.in_ok-group_rows.ensures {u = tt}) in
    on_ok_weaker c.all_row.result (λ more. adds_both _ _ _ _ _ rows (rw (c.span_of-span.ensures, c.records.ensures, c.records-2.ensures) at more)) c.all_row.ensures
