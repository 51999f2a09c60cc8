use Rattle.std.proofs.Common.{◌≡◌, arith, refl, take}
use Rattle.std.proofs.lemmas.List.{take_all}
use Rattle.link_report.specs.FlowTables.{group_line}
use Rattle.link_report.proofs.TableLemmas.{adds_line, adds_none}
use Rattle.link_report.proofs.flows.group_rows.Goals as goal

pub loop-group-init : goal.loop-group-init
loop-group-init c = adds_none c.args.table.now

pub loop-group-preserved : goal.loop-group-preserved
loop-group-preserved c =
    adds_line (group_line c.args.queue c.args.span) c.args.groups.now c.loop-group.group-index _ _ _ _ _ (omega arith) c.group-item.is c.loop-group.invariant c.in_ok-group_row.ensures

pub returns : goal.returns
returns c =
    let all : take c.loop-group.group-index c.args.groups.now ≡ c.args.groups.now = take_all _ _ (omega arith) in
    rw all at c.loop-group.invariant
