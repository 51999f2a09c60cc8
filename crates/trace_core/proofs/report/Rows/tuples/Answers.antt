use Rattle.std.proofs.Common.{◌≡◌, arith, refl, take}
use Rattle.std.proofs.lemmas.List.{take_all}
use Rattle.trace_core.specs.Report.{tuple_line}
use Rattle.trace_core.proofs.ReportLemmas.{adds_line, adds_none}
use Rattle.trace_core.proofs.report.Rows.tuples.Goals as goal

pub loop-row-init : goal.loop-row-init
loop-row-init c = adds_none c.args.self.now

pub loop-row-preserved : goal.loop-row-preserved
loop-row-preserved c =
    adds_line tuple_line c.args.tuples.now c.loop-row.row-index _ _ _ _ _ (omega arith) refl c.loop-row.invariant c.in_ok-tuple.ensures

pub returns : goal.returns
returns c =
    let all : take c.loop-row.row-index c.args.tuples.now ≡ c.args.tuples.now = take_all _ _ (omega arith) in
    rw all at c.loop-row.invariant
